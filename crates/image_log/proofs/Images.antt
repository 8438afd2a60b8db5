-- A log's file, seen as the images that a power loss leaves of it.
use Rattle.std.proofs.Common.{◌≡◌, ◌⊎◌, ◌∙◌, ◌+◌, Bool, Err, Ok, Result, ap, inl, inr, true, ⊎_elim}
use Rattle.std.specs.Prelude.{◌||◌, OnErr, OnOk, nat_lt}
use Rattle.d64_image.specs.Images.{Image}
use Rattle.image_log.specs.Files.{LeavesOnly}
use Rattle.image_log.specs.ImageLogs.{IsEither, LeavesImages, of_log}
use Rattle.image_log.specs.Logs.{is_closed}
use Rattle.image_log.specs.Recovered.{IsLeft, is_marked}
use Rattle.image_log.specs.declared.log.Log.{Log}
use Rattle.image_log.specs.declared.log_file.LogFile.{Ghosts}
use Rattle.std.specs.Prelude.{false}

or_true : (a b : Bool) → a ≡ true → (a || b) ≡ true
or_true a b is = ap (λ x. x || b) is

module _ {F : Type 0} {G : Ghosts F} (old new : Log F G) where
  -- bytes with one of two images leave one of two images
  pub leaves_images : (start before now : Image)
      → LeavesOnly G.history old.file new.file (λ c. IsLeft start before now c × (is_marked c ≡ false))
      → LeavesImages of_log old new (IsEither before now)
  leaves_images start before now only = record {
    later = only.later;
    each = λ image left.
        ⊎_elim (λ e. inl (left.2 ∙ e)) (λ e. inr (left.2 ∙ e)) (only.each left.0 left.1).0.image;
    before = λ t image le left. ⊎_elim (λ was. inl (left.0, was, left.2))
        (λ p. inr (⊎_elim (λ e. inl (left.2 ∙ e)) (λ e. inr (left.2 ∙ e)) p.0.image)) (only.before t left.0 le left.1);
  }

  -- a closed log takes no more commits
  pub over_by : {T E : Type 0} (r : Result T E) → OnErr r (is_closed new)
      → OnErr r ((new.closed || nat_lt 1024 (new.end + 46)) ≡ true)
  over_by (Ok x) closed = tt
  over_by (Err e) closed = or_true new.closed (nat_lt 1024 (new.end + 46)) closed

  pub blamed : {T E : Type 0} (r : Result T E) → OnErr r (is_closed old ⊎ (G.history.has_failed new.file ≡ true))
      → OnErr r (((old.closed || nat_lt 1024 (old.end + 46)) ≡ true) ⊎ (G.history.has_failed new.file ≡ true))
  blamed (Ok x) why = tt
  blamed (Err e) why = ⊎_elim (λ closed. inl (or_true old.closed (nat_lt 1024 (old.end + 46)) closed)) (λ f. inr f) why

  pub stands_on : {T E : Type 0} (r : Result T E) (A : Type 0) (B : Type 0) → (A → B) → OnOk r A → OnOk r B
  stands_on (Ok x) A B f a = f a
  stands_on (Err e) A B f a = tt
