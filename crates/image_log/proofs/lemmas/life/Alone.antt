-- A log that was closed and left alone.
use Rattle.std.proofs.Common.{◌≡◌, ◌⊎◌, ◌∙◌, Bool, Err, Ok, Option, Result, Some, ap, false, inl, inr, subst, sym, true, ⊎_elim}
use Rattle.std.proofs.lemmas.Bool.{false≢true}
use Rattle.std.specs.Prelude.{IfSome, IsTrue, OnErr, OnOk}
use Rattle.image_log.specs.life.Folders.{FolderHistory, IsReturned}
use Rattle.image_log.specs.life.LiveLogs.{IsLeftAlone, is_shut}
use Rattle.image_log.specs.Logs.{is_closed, log_file}
use Rattle.image_log.specs.declared.log.Log.{Log}
use Rattle.image_log.specs.declared.log_file.LogFile.{Ghosts}

ok_or : {T E : Type 0} (A B : Type 0) (r : Result T E) → OnOk r A → OnErr r B → B ⊎ A
ok_or A B (Ok x) ok err = inr ok
ok_or A B (Err e) ok err = inl err

module _ {F D : Type 0} {G : Ghosts F} (h : FolderHistory D) where
  pub alone_under : {E : Type 0} (d a : D) (o : Option (Log F G)) (log : Log F G) → o ≡ Some log → (r : Result Unit E)
      → IsReturned h G.history d a (log_file log) r → IsLeftAlone h d o a
  alone_under d a o log is r back = subst (λ (x : Option (Log F G)). IsLeftAlone h d x a) (sym is)
      (record {
        left = back.outcomes;
        held = λ s f was is. ⊎_elim (λ failed. inl failed) (λ held. inr (held s f was is))
            (ok_or _ (h.has_failed a ≡ true) r back.held back.failures.failed);
      })

  -- what is said of the log that is open, under its name
  pub said_under : (o : Option (Log F G)) (log : Log F G) → o ≡ Some log → (Says : Log F G → Type 0) → Says log → IfSome o Says
  said_under o log is Says all = subst (λ (x : Option (Log F G)). IfSome x Says) (sym is) all

  -- and of one whose name has gone
  pub away_under : (o : Option (Log F G)) (log : Log F G) → o ≡ Some log → (Away : F → Type 0) (P : Type 0)
      → (Away (log_file log) → P) → IfSome o (λ l. Away (log_file l) → P)
  away_under o log is Away P all =
      subst (λ (x : Option (Log F G)). IfSome x (λ l. Away (log_file l) → P)) (sym is) all

  -- one that isn't closed isn't shut
  pub was_open : (o : Option (Log F G)) (log : Log F G) → o ≡ Some log → (closed : Bool) → (is_closed log → IsTrue closed)
      → closed ≡ false → is_shut h o ≡ true → ⊥
  was_open o log is closed when not shut =
      false≢true (sym not ∙ when (ap (is_shut h) (sym is) ∙ shut))
