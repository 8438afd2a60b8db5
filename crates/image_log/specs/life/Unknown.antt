-- Files and folders of which nothing is known: a power loss may leave anything. Our own.
use Rattle.std.specs.Prelude.{None, true}
use Rattle.image_log.specs.life.Folders.{FolderHistory}
use Rattle.image_log.specs.Files.{FileHistory}
use Rattle.image_log.specs.ImageLogs.{LogHistory}

-- a file of which nothing is known
abbrev pub unknown_file : {F : Type 0} → FileHistory F
unknown_file = record {
  held = λ _. None;
  may_leave = λ _ _. Unit {0};
  moment = λ _. 0;
  left_since = λ _ _ _. Unit {0};
  has_failed = λ _. true;
  only_now = λ f c left. tt;
}

-- a folder of which nothing is known
abbrev pub unknown_folder : {D : Type 0} → FolderHistory D
unknown_folder = record {
  held = λ _. None;
  may_leave = λ _ _. Unit {0};
  moment = λ _. 0;
  left_since = λ _ _ _. Unit {0};
  lent = λ _. 0;
  has_failed = λ _. true;
  only_now = λ d s left. tt;
  now = λ d t s le may. tt;
}

-- a log of which nothing is known
abbrev pub unknown_log : {L : Type 0} → LogHistory L
unknown_log = record {
  stands_for = λ _ _. ⊥;
  may_leave = λ _ _. Unit {0};
  moment = λ _. 0;
  left_since = λ _ _ _. Unit {0};
  is_over = λ _. true;
  has_failed = λ _. true;
  durable = λ l image c never left. absurd never;
  only_now = λ l c left. tt;
}
