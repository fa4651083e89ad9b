pub mod RequestLists
