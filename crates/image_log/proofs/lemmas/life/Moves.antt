-- A log in its folder, as time goes on.
use Rattle.std.proofs.Common.{◌≡◌, ◌≤◌, ◌⊎◌, ◌∙◌, ℕ, Bool, List, ap, arith, false, inl, inr, refl, subst, sym, true, ⊎_elim}
use Rattle.std.proofs.lemmas.Bool.{false≢true}
use Rattle.std.proofs.lemmas.Option.{same_Some}
use Rattle.std.specs.Prelude.{Option, Some}
use Rattle.d64_image.specs.Images.{Image}
use Rattle.image_log.specs.Files.{LeavesOnly}
use Rattle.image_log.specs.ImageLogs.{IsEither, LeavesImages}
use Rattle.image_log.specs.Logs.{StandsFor, log_file}
use Rattle.image_log.specs.Recovered.{IsLeft, is_marked}
use Rattle.image_log.specs.declared.log.Log.{Log}
use Rattle.image_log.specs.declared.log_file.LogFile.{Ghosts}
use Rattle.image_log.specs.life.Folders.{Folder, FolderHistory, with_log}
use Rattle.image_log.specs.life.LiveLogs.{GivesAtMost, IsRenewing, Stands, file_time, gives_image, left_from, left_last, moment_now, of_live, only_image}
use Rattle.image_log.specs.life.Serving.{IsServing}
use Rattle.image_log.specs.life.Shops.{Gives, LogGives}
use Rattle.image_log.specs.declared.life.live_log.LiveLog.{LiveLog}

either_image : (s : Folder) (c before now : Image) → GivesAtMost s c → Gives s before ⊎ Gives s now → IsEither before now c
either_image s c before now most (inl gives) = inl (sym (most before gives))
either_image s c before now most (inr gives) = inr (sym (most now gives))

module _ {F D : Type 0} {G : Ghosts F} (h : FolderHistory D) where
  -- a renewal, as the user sees it: behind it the folder says all
  pub renewed : (old new : LiveLog F D G) (now : Image) → IsRenewing h old.folder old.log old.used new.folder now
      → ((t : ℕ) (s : Folder) → left_from h new.folder new.log new.used t s → h.left_since new.folder t s)
      → h.moment new.folder ≤ moment_now h new.folder new.log new.used
      → LeavesImages (of_live h) old new (λ c. c ≡ now)
  renewed old new now moves all few = record {
    later = omega (arith, moves.later, few);
    each = λ c left. sym (left.2 now (moves.each left.0 (all (moment_now h old.folder old.log old.used) left.0 left.1)));
    before = λ t c le left. ⊎_elim (λ was. inl (left.0, was, left.2)) (λ gives. inr (sym (left.2 now gives)))
        (moves.before t left.0 le (all t left.0 left.1));
  }

  module _ (d : D) (l m : Log F G) (base before now : Image)
      (moments : LeavesOnly G.history (log_file l) (log_file m) (λ c. IsLeft base before now c × (is_marked c ≡ false))) where
    -- a log that is left beside IMAGE
    left_gives : (image : Image) (c : List ℕ) → image ≡ base → IsLeft base before now c
        → LogGives c image before ⊎ LogGives c image now
    left_gives image c is left = ⊎_elim
        (λ old. inl record { size = left.size; based = left.based; own = inl (is ∙ sym left.base); is = old; ends = left.ends })
        (λ new. inr record { size = left.size; based = left.based; own = inl (is ∙ sym left.base); is = new; ends = left.ends })
        left.image

    -- What a power loss leaves while a commit is made: what it might have left before, or a folder that gives one of two
    -- images.
    pub record Moves (o : Option (Log F G)) (u : Bool) : Type 0 where
      pub later : moment_now h d o u ≤ moment_now h d (Some m) true
      pub each : (s : Folder) → left_from h d (Some m) true (moment_now h d o u) s → Gives s before ⊎ Gives s now
      pub goes : (t : ℕ) (s : Folder) → t ≤ moment_now h d o u → left_from h d (Some m) true t s
          → left_from h d o u t s ⊎ (Gives s before ⊎ Gives s now)

    module _ (u : Bool) (stands : Stands h d (Some l) u base before) where
      is_log : l ≡ stands.log
      is_log = same_Some l stands.log stands.is

      lent : h.lent d ≤ G.history.moment (log_file l)
      lent = subst (λ (x : Log F G). h.lent d ≤ G.history.moment (log_file x)) (sym is_log) stands.lent

      gives : (from s : Folder) (c : List ℕ) → h.may_leave d from → IsLeft base before now c → s ≡ with_log c from
          → Gives s before ⊎ Gives s now
      gives from s c may left is =
          subst (λ (x : Folder). Gives x before ⊎ Gives x now) (sym is) (left_gives from.image c (stands.left from may).0 left)

      last : (from s : Folder) (k : ℕ) (c : List ℕ) → h.may_leave d from → k ≡ G.history.moment (log_file l)
          → G.history.left_since (log_file m) k c → s ≡ with_log c from → Gives s before ⊎ Gives s now
      last from s k c may is left same = gives from s c may
          (moments.each c (subst (λ (j : ℕ). G.history.left_since (log_file m) j c) is left)).0 same

    module _ (stands : Stands h d (Some l) false base before) where
      is_lent : h.lent d ≡ G.history.moment (log_file l)
      is_lent = (stands.unused refl).1 ∙ ap (λ (x : Log F G). G.history.moment (log_file x)) (sym (is_log false stands))

      pub first_moves : Moves (Some l) false
      first_moves = record {
        later = omega arith;
        each = λ s left. first_each s left;
        goes = λ t s le left. first_goes t s le left;
      }
        where
          first_time : (t : ℕ) → t ≤ h.moment d → file_time h d m t ≡ G.history.moment (log_file l)
          first_time t le = omega (arith, le, is_lent, moments.later)

          first_each : (s : Folder) → left_from h d (Some m) true (h.moment d) s → Gives s before ⊎ Gives s now
          first_each s (inl was) = inl (gives_image h d (Some l) false base before stands s (h.only_now d s was.1))
          first_each s (inr then) = last false stands then.0 s (file_time h d m (h.moment d)) then.2 then.1
              (first_time (h.moment d) (omega arith)) then.3 then.4

          first_goes : (t : ℕ) (s : Folder) → t ≤ h.moment d → left_from h d (Some m) true t s
              → h.left_since d t s ⊎ (Gives s before ⊎ Gives s now)
          first_goes t s le (inl was) = inl was.1
          first_goes t s le (inr then) = inr (last false stands then.0 s (file_time h d m t) then.2 then.1
              (first_time t le) then.3 then.4)

    module _ (stands : Stands h d (Some l) true base before) where
      pub next_moves : Moves (Some l) true
      next_moves = record {
        later = omega (arith, moments.later);
        each = λ s left. next_each s left;
        goes = λ t s le left. next_goes t s le left;
      }
        where
          next_each : (s : Folder) → left_from h d (Some m) true (moment_now h d (Some l) true) s → Gives s before ⊎ Gives s now
          next_each s (inl was) = absurd (omega (arith, was.0))
          next_each s (inr then) = last true stands then.0 s (file_time h d m (moment_now h d (Some l) true)) then.2 then.1
              (omega (arith, lent true stands, moments.later)) then.3 then.4

          next_goes : (t : ℕ) (s : Folder) → t ≤ moment_now h d (Some l) true → left_from h d (Some m) true t s
              → left_from h d (Some l) true t s ⊎ (Gives s before ⊎ Gives s now)
          next_goes t s le (inl was) = inl (inl was)
          next_goes t s le (inr then) =
              let k : file_time h d m t ≡ file_time h d l t = omega (arith, le, lent true stands, moments.later) in
              let few : file_time h d l t ≤ G.history.moment (log_file l) = omega arith in
              ⊎_elim
              (λ was. inl (inr (then.0, then.1, then.2, was, then.4)))
              (λ is. inr (gives true stands then.0 s then.2 then.1 is.0 then.4))
              (moments.before (file_time h d l t) then.2 few
              (subst (λ (j : ℕ). G.history.left_since (log_file m) j then.2) k then.3))

    pub moves : (u : Bool) → Stands h d (Some l) u base before → Moves (Some l) u
    moves false stands = first_moves stands
    moves true stands = next_moves stands

  -- a log that was made serves
  pub serves_stands : (d : D) (log : Log F G) (shop : Image) → IsServing h d log shop → Stands h d (Some log) false shop shop
  serves_stands d log shop serves = record {
    log = log;
    is = refl;
    stands = serves.stands;
    some = serves.some;
    held = serves.held;
    image = serves.image;
    beside = serves.stands.bytes;
    left = serves.left;
    lent = omega (arith, serves.lent);
    unused = λ is. (refl, serves.lent);
  }

  -- after a commit
  pub stands_after : (d : D) (o : Option (Log F G)) (l m : Log F G) (u : Bool) (base before now : Image) → o ≡ Some l
      → (stands : Stands h d o u base before) → StandsFor m base now
      → G.history.moment (log_file l) ≤ G.history.moment (log_file m) → Stands h d (Some m) true base now
  stands_after d o l m u base before now is stands here later =
      let same : l ≡ stands.log = same_Some l stands.log (sym is ∙ stands.is) in
      let lent : h.lent d ≤ G.history.moment (log_file l) =
      subst (λ (x : Log F G). h.lent d ≤ G.history.moment (log_file x)) (sym same) stands.lent in
      record {
        log = m;
        is = refl;
        stands = here;
        some = stands.some;
        held = stands.held;
        image = stands.image;
        beside = stands.beside;
        left = stands.left;
        lent = omega (arith, lent, later);
        unused = λ never. absurd (false≢true (sym never));
      }

  -- the log that stands, under its name
  pub the_log : (d : D) (o : Option (Log F G)) (l : Log F G) (u : Bool) (base before : Image) → o ≡ Some l
      → Stands h d o u base before → StandsFor l base before
  the_log d o l u base before is stands =
      subst (λ (x : Log F G). StandsFor x base before) (same_Some stands.log l (sym stands.is ∙ is)) stands.stands

  -- what stands, where the log and its base are known by other names
  pub under_name : (d : D) (o : Option (Log F G)) (l : Log F G) (u : Bool) (base other now : Image) → o ≡ Some l → base ≡ other
      → Stands h d o u base now → Stands h d (Some l) u other now
  under_name d o l u base other now is same stands =
      subst (λ (b : Image). Stands h d (Some l) u b now) same
      (subst (λ (x : Option (Log F G)). Stands h d x u base now) is stands)

  -- a commit, as the user sees it
  pub committed : (old new : LiveLog F D G) (l m : Log F G) (before now : Image) → old.log ≡ Some l
      → new.folder ≡ old.folder → new.log ≡ Some m → new.used ≡ true
      → (stands : Stands h old.folder old.log old.used old.base.items before)
      → LeavesOnly G.history (log_file l) (log_file m) (λ c. IsLeft old.base.items before now c × (is_marked c ≡ false))
      → LeavesImages (of_live h) old new (IsEither before now)
  committed old new l m before now is folder log used stands moments =
      let here = moves old.folder l m old.base.items before now moments old.used
      (subst (λ (o : Option (Log F G)). Stands h old.folder o old.used old.base.items before) is stands) in
      record {
        later = rw (is, folder, log, used) here.later;
        each = λ c left. either_image left.0 c before now left.2
            (here.each left.0 (there left.0 (moment_now h old.folder (Some l) old.used) (to_l left.0 left.1)));
        before = λ t c le left. ⊎_elim
            (λ was. inl (left.0, subst (λ (o : Option (Log F G)). left_from h old.folder o old.used t left.0) (sym is) was, left.2))
            (λ one. inr (either_image left.0 c before now left.2 one))
            (here.goes t left.0 (subst (λ (o : Option (Log F G)). t ≤ moment_now h old.folder o old.used) is le)
            (there left.0 t left.1));
      }
    where
      there : (s : Folder) (t : ℕ) → left_from h new.folder new.log new.used t s → left_from h old.folder (Some m) true t s
      there s t left =
          subst (λ (d : D). left_from h d (Some m) true t s) folder
          (subst (λ (o : Option (Log F G)). left_from h new.folder o true t s) log
          (subst (λ (u : Bool). left_from h new.folder new.log u t s) used left))

      to_l : (s : Folder) → left_from h new.folder new.log new.used (moment_now h old.folder old.log old.used) s
          → left_from h new.folder new.log new.used (moment_now h old.folder (Some l) old.used) s
      to_l s left = subst (λ (o : Option (Log F G)). left_from h new.folder new.log new.used (moment_now h old.folder o old.used) s) is left

  -- nothing was done
  pub unmoved : (old new : LiveLog F D G) (l : Log F G) (before now : Image) → old.log ≡ Some l → new.folder ≡ old.folder
      → new.log ≡ Some l → new.used ≡ old.used → new.base ≡ old.base
      → Stands h old.folder old.log old.used old.base.items before → LeavesImages (of_live h) old new (IsEither before now)
  unmoved old new l before now is folder log used base stands = record {
    later = rw (folder, log, used, is) omega arith;
    each = λ c left. inl (only_image h old.folder old.log old.used old.base.items before stands left.0 c
        (left_last h old.folder old.log old.used left.0 (there left.0 (moment_now h old.folder old.log old.used) left.1)) left.2);
    before = λ t c le left. inl (left.0, there left.0 t left.1, left.2);
  }
    where
      there : (s : Folder) (t : ℕ) → left_from h new.folder new.log new.used t s → left_from h old.folder old.log old.used t s
      there s t left =
          subst (λ (d : D). left_from h d old.log old.used t s) folder
          (subst (λ (o : Option (Log F G)). left_from h new.folder o old.used t s) (log ∙ sym is)
          (subst (λ (u : Bool). left_from h new.folder new.log u t s) used left))
