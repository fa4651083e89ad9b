use Rattle.std.proofs.Common.{rules}
use Rattle.card.proofs.Pushes.{few_rows, is_table_put}
use Rattle.card.proofs.Told.{told_by}
use Rattle.card.proofs.table.Table.push.Goals as goal

pub returns-in_err-check-clause-told : goal.returns-in_err-check-clause-told
returns-in_err-check-clause-told c = told_by _ _ _ _ _ c.self.invariant.lawful c.self.view_is (search rules)

pub put-requires : goal.put-requires
put-requires c = few_rows c.self.inside _ _ c.args.row _ c.self.invariant c.self.view_is c.in_ok-check.ensures

pub invariant_of-self : goal.invariant_of-self
invariant_of-self c =
    rw c.put.ensures (is_table_put c.self.inside _ _ _ c.args.row _ c.self.invariant c.self.view_is c.in-Group.is c.requires c.in_ok-check.ensures)

pub invariant_of-self-in-Transform : goal.invariant_of-self-in-Transform
invariant_of-self-in-Transform c =
    rw c.put.ensures (is_table_put c.self.inside _ _ _ c.args.row _ c.self.invariant c.self.view_is c.in-Transform.is c.requires c.in_ok-check.ensures)

pub invariant_of-self-in-Coset : goal.invariant_of-self-in-Coset
invariant_of-self-in-Coset c =
    rw c.put.ensures (is_table_put c.self.inside _ _ _ c.args.row _ c.self.invariant c.self.view_is c.in-Coset.is c.requires c.in_ok-check.ensures)

pub returns-in-Group-clause-told : goal.returns-in-Group-clause-told
returns-in-Group-clause-told c = told_by _ _ _ _ _ c.self.invariant.lawful c.self.view_is c.in_ok-check.ensures

pub returns-in-Group-clause-lawful : goal.returns-in-Group-clause-lawful
returns-in-Group-clause-lawful c =
    rw c.put.ensures (is_table_put c.self.inside _ _ _ c.args.row _ c.self.invariant c.self.view_is c.in-Group.is c.requires c.in_ok-check.ensures).lawful

pub returns-in-Transform-clause-told : goal.returns-in-Transform-clause-told
returns-in-Transform-clause-told c = told_by _ _ _ _ _ c.self.invariant.lawful c.self.view_is c.in_ok-check.ensures

pub returns-in-Transform-clause-lawful : goal.returns-in-Transform-clause-lawful
returns-in-Transform-clause-lawful c =
    rw c.put.ensures (is_table_put c.self.inside _ _ _ c.args.row _ c.self.invariant c.self.view_is c.in-Transform.is c.requires c.in_ok-check.ensures).lawful

pub returns-in-Coset-clause-told : goal.returns-in-Coset-clause-told
returns-in-Coset-clause-told c = told_by _ _ _ _ _ c.self.invariant.lawful c.self.view_is c.in_ok-check.ensures

pub returns-in-Coset-clause-lawful : goal.returns-in-Coset-clause-lawful
returns-in-Coset-clause-lawful c =
    rw c.put.ensures (is_table_put c.self.inside _ _ _ c.args.row _ c.self.invariant c.self.view_is c.in-Coset.is c.requires c.in_ok-check.ensures).lawful
