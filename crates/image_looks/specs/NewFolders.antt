-- Files that are made in a folder of a host. Our own.
use Rattle.std.specs.List.{All}
use Rattle.std.specs.Prelude.{◌≡◌, [], ℕ, List, Some}
use Rattle.file_rescues.specs.declared.rescue.mem_folder.MemFile.{MemFile}
use Rattle.file_rescues.specs.rescue.Folders.{StaysInside}
use Rattle.image_file.specs.Remains.{Remains}
use Rattle.image_file.specs.Replacing.{NowAll}
use Rattle.image_file.specs.paths.Traces.{IsWrittenAt, Traces}
use Rattle.opened_files.specs.Rights.{aside_of, path_in}

-- each of these files can be made in a folder
abbrev pub AllStayInside : List MemFile → Type 0
AllStayInside files = All (λ file. StaysInside file.name.items) files

-- a file that was empty holds these bytes, and they remain if power goes
pub record IsWhole {F : Type 0} (remains : Remains F) (made left : F) (bytes : List ℕ) : Type 0 where
  pub held : remains.held made ≡ Some [] → remains.held left ≡ Some bytes
  pub lasting : remains.held made ≡ Some [] → NowAll remains left (λ s. s ≡ bytes)

module _ {H F : Type 0} (remains : Remains F) (traces : Traces H F) (host : H) where
  -- each of these files was made in a folder with its bytes
  abbrev pub AreWrittenIn : (folder : List ℕ) → List MemFile → Type 0
  AreWrittenIn folder files =
      All (λ file. IsWrittenAt remains traces host (path_in folder file.name.items) file.bytes.items) files

  -- they were, in a folder of another name, which got its path then
  pub record AreMadeAt (path : List ℕ) (files : List MemFile) : Type 0 where
    pub end : List ℕ
    pub written : AreWrittenIn (aside_of path end) files
    pub moved : traces.moved host (aside_of path end) path
