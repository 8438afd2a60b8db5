-- The files of a folder in memory. Our own.
use Rattle.std.specs.Prelude.{List, map}
use Rattle.file_rescues.specs.rescue.Folders.{NewFile, new_file}
use Rattle.file_rescues.specs.declared.rescue.mem_folder.MemFile.{MemFile}
use Rattle.file_rescues.specs.declared.rescue.mem_folder.MemFolder.{MemFolder}

-- a file in memory, as a file of a folder
abbrev pub file_in : MemFile → NewFile
file_in file = new_file file.name.items file.bytes.items

-- the files that a folder in memory got, in order
abbrev pub files_in : MemFolder → List NewFile
files_in folder = map file_in folder.files.items
