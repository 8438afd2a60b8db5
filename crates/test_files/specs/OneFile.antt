-- A host on which one file was made and filled, under another name than its path, which it got then. Our own.
use Rattle.std.specs.Prelude.{◌≡◌, ⊤, [], ℕ, List, Some}
use Rattle.image_file.specs.Remains.{Remains}
use Rattle.image_file.specs.paths.Traces.{Traces}
use Rattle.opened_files.specs.Rights.{aside_of}

-- its open file, as it was made, and as it was left
pub data Stage : Type 0 where
  Made : Stage
  Left : Stage

module _ (path image : List ℕ) where
  -- it was empty, and then it had these bytes
  abbrev pub stage_bytes : Stage → List ℕ
  stage_bytes Made = []
  stage_bytes Left = image

  -- until then anything may remain of it
  abbrev pub StageRemains : Stage → List ℕ → Type 0
  StageRemains Made s = ⊤
  StageRemains Left s = s ≡ image

  abbrev pub one_remains : Remains Stage
  one_remains = record {
    held = λ f. Some (stage_bytes f);
    moment = λ _. 0;
    remain = λ f t s. StageRemains f s;
    sooner = λ f t u s le remains. remains;
  }

  -- it was made, and moved
  abbrev pub one_traces : Traces Unit Stage
  one_traces = record {
    seen = λ _ _ _. ⊥;
    opened = λ _ how at f. (at ≡ aside_of path []) × (f ≡ Made);
    moved = λ _ from to. (from ≡ aside_of path []) × (to ≡ path);
    renamed = λ _ _ _. ⊥;
    removed = λ _ _. ⊥;
    made = λ _ _. ⊥;
    synced = λ _ _. ⊥;
  }
