mod ByFile
