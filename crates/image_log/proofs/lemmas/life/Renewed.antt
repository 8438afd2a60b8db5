-- A full log is closed, marked and landed, and a new one gets its name.
use Rattle.std.proofs.Common.{◌≡◌, ◌≤◌, ◌+◌, ◌-◌, ◌⊎◌, ◌∙◌, ℕ, Bool, List, [], ◌∷◌, ap, arith, false, inl, inr, refl, subst, sym, true, ⊎_elim}
use Rattle.std.proofs.lemmas.Option.{none-some, same_Some}
use Rattle.std.specs.Prelude.{Contains, Err, IfOk, IsSome, Ok, Option, Result, Some, slice_index_or}
use Rattle.d64_image.specs.Images.{Image}
use Rattle.image_log.specs.Logs.{log_file}
use Rattle.image_log.specs.declared.log.Log.{Log}
use Rattle.image_log.specs.declared.log_file.LogFile.{Ghosts}
use Rattle.image_log.specs.life.Bringing.{IsBrought, IsFound, IsLanding, IsMarkedIn, RestsAlone, marked_log}
use Rattle.image_log.specs.life.Folders.{AllLeft, Folder, FolderHistory, HasImage, IsReturned, LeavesFolders, LeftOpen, with_image, with_log}
use Rattle.image_log.specs.life.LiveLogs.{IsRenewing, Stands, file_time, left_from, moment_now, stands_gives}
use Rattle.image_log.specs.life.Serving.{IsServing}
use Rattle.image_log.specs.life.Shops.{Gives, GivesOneOf, LogGives, given_by}
use Rattle.image_log.proofs.lemmas.life.Landed.{bring_landed, brought, whole}
use Rattle.image_log.proofs.lemmas.life.Steps.{joined, weaker}

only_here : (now : Image) → Contains (now ∷ []) now
only_here now = (0, omega arith, refl)

pub only_one : (now given : Image) → Contains (now ∷ []) given → now ≡ given
only_one now given has =
    let zero : has.0 ≡ 0 = omega (arith, has.1) in
    subst (λ (k : ℕ). slice_index_or (now ∷ []) k given ≡ given) zero has.2

module _ {F D E : Type 0} {G : Ghosts F} (h : FolderHistory D) (d a : D) (log : Log F G) (used : Bool) (base now : Image)
    (stands : Stands h d (Some log) used base now) (closing : Result Unit E)
    (returned : IsReturned h G.history d a (log_file log) closing) where
  is_log : log ≡ stands.log
  is_log = same_Some log stands.log stands.is

  abbrev pub bytes : List ℕ
  bytes = stands.stands.bytes

  durable : (c : List ℕ) → G.history.may_leave (log_file log) c → c ≡ bytes
  durable c may = stands.stands.durable c (subst (λ (l : Log F G). G.history.may_leave (log_file l) c) is_log may)

  -- beside an IMAGE that is the base the log gives the image
  gives : (from s : Folder) (c : List ℕ) → from.image ≡ base → c ≡ bytes → s ≡ with_log c from → Gives s now
  gives from s c image same is =
      subst (λ (x : Folder). Gives x now) (sym (is ∙ ap (λ (b : List ℕ). with_log b from) same))
      (stands_gives stands.log base now stands.stands from.image image)

  open_gives : (from s : Folder) (c : List ℕ) → h.may_leave d from → G.history.may_leave (log_file log) c
      → s ≡ with_log c from → Gives s now
  open_gives from s c may left is = gives from s c (stands.left from may).0 (durable c left) is

  closed_is : (s : Folder) → h.may_leave a s → (from : Folder) × h.may_leave d from × (s ≡ with_log bytes from)
  closed_is s may =
      let from = returned.outcomes s may in (
        from.0,
        from.1,
        ⊎_elim
            (λ same. absurd (none-some stands.beside (sym same.1 ∙ (stands.left from.0 from.1).1)))
            (λ closed. closed.2 ∙ ap (λ (b : List ℕ). with_log b from.0) (durable closed.0 closed.1))
            from.2,
      )

  pub closed_gives : AllLeft h a (λ s. Gives s now)
  closed_gives s may = let from = closed_is s may in gives from.0 s bytes (stands.left from.0 from.1).0 refl from.2

  pub closed_left : AllLeft h a (GivesOneOf (now ∷ []))
  closed_left s may = (now, only_here now, closed_gives s may)

  lent : h.lent d ≤ G.history.moment (log_file log)
  lent = subst (λ (l : Log F G). h.lent d ≤ G.history.moment (log_file l)) (sym is_log) stands.lent

  unused_lent : used ≡ false → h.lent d ≡ G.history.moment (log_file log)
  unused_lent is = (stands.unused is).1 ∙ ap (λ (l : Log F G). G.history.moment (log_file l)) (sym is_log)

  last_gives : (from s : Folder) (k : ℕ) (c : List ℕ) → h.may_leave d from → k ≡ G.history.moment (log_file log)
      → G.history.left_since (log_file log) k c → s ≡ with_log c from → Gives s now
  last_gives from s k c may is left same = open_gives from s c may
      (G.history.only_now (log_file log) c (subst (λ (j : ℕ). G.history.left_since (log_file log) j c) is left)) same

  -- what might have been left while the log was open
  while_open : (u : Bool) → used ≡ u → (t : ℕ) (s : Folder) → t ≤ moment_now h d (Some log) u
      → LeftOpen h G.history d (log_file log) t (h.lent d + (t - (h.moment d + 1))) s
      → left_from h d (Some log) u t s ⊎ Gives s now
  while_open true is t s le (inl before) = inl (inl before)
  while_open true is t s le (inr then) =
      let same : h.lent d + (t - (h.moment d + 1)) ≡ file_time h d log t = omega (arith, le, lent) in
      inl (inr (then.0, then.1, then.2, subst (λ (k : ℕ). G.history.left_since (log_file log) k then.2) same then.3, then.4))
  while_open false is t s le (inl before) = inl before.1
  while_open false is t s le (inr then) =
      inr (last_gives then.0 s (h.lent d + (t - (h.moment d + 1))) then.2 then.1 (omega (arith, le, unused_lent is)) then.3 then.4)

  -- what is left now
  at_last : (u : Bool) → used ≡ u → (s : Folder)
      → LeftOpen h G.history d (log_file log) (moment_now h d (Some log) u)
      (h.lent d + (moment_now h d (Some log) u - (h.moment d + 1))) s → Gives s now
  at_last true is s (inl before) = absurd (omega (arith, before.0))
  at_last true is s (inr then) =
      last_gives then.0 s (h.lent d + (h.moment d + 1 + (G.history.moment (log_file log) - h.lent d) - (h.moment d + 1)))
      then.2 then.1 (omega (arith, lent)) then.3 then.4
  at_last false is s (inl before) = unused_gives (h.only_now d s before.1)
    where
      unused_gives : h.may_leave d s → Gives s now
      unused_gives may =
          let there = stands.left s may in
          subst (λ (o : Option (List ℕ)). given_by o s.image now) (sym (there.1 ∙ ap Some (stands.unused is).0))
          (stands_gives stands.log base now stands.stands s.image there.0)
  at_last false is s (inr then) =
      last_gives then.0 s (h.lent d + (h.moment d - (h.moment d + 1))) then.2 then.1 (omega (arith, unused_lent is)) then.3 then.4

  counted : (u : Bool) → moment_now h d (Some log) u ≤ h.moment d + 1 + (G.history.moment (log_file log) - h.lent d)
  counted true = omega arith
  counted false = omega arith

  one_image : (s : Folder) → GivesOneOf (now ∷ []) s → Gives s now
  one_image s gives = subst (Gives s) (sym (only_one now gives.0 gives.1)) gives.2

  -- and the calls behind it leave folders that give the image
  pub renewing : (new : D) → LeavesFolders h a new (GivesOneOf (now ∷ [])) → IsRenewing h d (Some log) used new now
  renewing new rest =
      let enough = returned.counted stands.some stands.held in
      let few = counted used in
      let here : moment_now h d (Some log) used ≤ h.moment a = omega (arith, enough, few) in
      record {
        later = omega (arith, here, rest.later);
        each = λ s left. ⊎_elim
            (λ was. ⊎_elim (at_last used refl s) (closed_gives s)
            (returned.since (moment_now h d (Some log) used) s few was))
            (one_image s)
            (rest.before (moment_now h d (Some log) used) s here left);
        before = λ t s le left. ⊎_elim
            (λ was. ⊎_elim (while_open used refl t s le) (λ may. inr (closed_gives s may))
            (returned.since t s (omega (arith, le, few)) was))
            (λ one. inr (one_image s one))
            (rest.before t s (omega (arith, le, here)) left);
      }

  -- closed without an error
  module _ (back : (s : Folder) (f : List ℕ) → h.held d ≡ Some s → G.history.held (log_file log) ≡ Some f
      → h.held a ≡ Some (with_log f s)) where
    pub found : IsFound h a (now ∷ []) (with_log bytes stands.some)
    found = record {
      held = back stands.some bytes stands.held
          (subst (λ (l : Log F G). G.history.held (log_file l) ≡ Some bytes) (sym is_log) stands.stands.held);
      gives = (now, only_here now, stands_gives stands.log base now stands.stands stands.some.image stands.image);
      left = λ s may. (now, only_here now, closed_gives s may);
      settled = λ s may.
          let from = closed_is s may in
          let there = stands.left from.0 from.1 in (
            ap (λ (x : Folder). x.image) from.2 ∙ there.0 ∙ sym stands.image,
            record {
              none = λ none. absurd (none-some bytes (sym none));
              some = λ some. subst (λ (x : Folder). IsSome x.log) (sym from.2) some;
              making = ap (λ (x : Folder). x.making) from.2 ∙ there.2;
            },
          );
    }

    -- a landing behind it, of what memory has
    module _ (new : D) where
      pub kept_ended : ((shops : List Image) (s : Folder) (f : List ℕ) → IsFound h a shops s → s.log ≡ Some f → base ≡ s.image
          → LogGives f s.image now → LeavesFolders h a new (GivesOneOf shops)) → IsRenewing h d (Some log) used new now
      kept_ended landing = renewing new (landing (now ∷ []) (with_log bytes stands.some) bytes found refl (sym stands.image)
          (stands_gives stands.log base now stands.stands stands.some.image stands.image))

      pub kept_rests : ((shops : List Image) (s : Folder) (f : List ℕ) → IsFound h a shops s → s.log ≡ Some f → base ≡ s.image
          → LogGives f s.image now → RestsAlone h new now) → RestsAlone h new now
      kept_rests landed = landed (now ∷ []) (with_log bytes stands.some) bytes found refl (sym stands.image)
          (stands_gives stands.log base now stands.stands stands.some.image stands.image)

    -- the calls behind it, one after another
    module _ (b : D)
        (marking : (shops : List Image) (s : Folder) (f : List ℕ) → IsFound h a shops s → s.log ≡ Some f
        → LeavesFolders h a b (GivesOneOf shops)) where
      pub mark_renewing : IsRenewing h d (Some log) used b now
      mark_renewing = renewing b (marking (now ∷ []) (with_log bytes stands.some) bytes found refl)

      module _ (e : D)
          (marked : (shops : List Image) (s : Folder) (f : List ℕ) → IsFound h a shops s → s.log ≡ Some f
          → (h.held b ≡ Some (with_log (marked_log f) s)) × AllLeft h b (IsMarkedIn f s))
          (moments : (log : List ℕ) (x : Image) → AllLeft h b (IsLanding log x now) → LeavesFolders h b e (IsLanding log x now)) where
        is_marked : (h.held b ≡ Some (with_log (marked_log bytes) (with_log bytes stands.some)))
            × AllLeft h b (IsMarkedIn bytes (with_log bytes stands.some))
        is_marked = marked (now ∷ []) (with_log bytes stands.some) bytes found refl

        landing : LeavesFolders h a e (GivesOneOf (now ∷ []))
        landing = bring_landed h a b (now ∷ []) (with_log bytes stands.some) bytes now found refl
            (stands_gives stands.log base now stands.stands stands.some.image stands.image)
            (marking (now ∷ []) (with_log bytes stands.some) bytes found refl) is_marked e moments

        pub bring_renewing : IsRenewing h d (Some log) used e now
        bring_renewing = renewing e landing

        module _ (new : D)
            (stays : (log : List ℕ) (x : Image) → AllLeft h b (IsLanding log x now) → AllLeft h e (IsLanding log x now))
            (ok : (x : Folder) → h.held b ≡ Some x → x.image ≡ base
            → (h.held e ≡ Some (with_image now x)) × AllLeft h e (HasImage (with_image now x)))
            (making : (s : Folder) → h.held e ≡ Some s → AllLeft h e (IsBrought now) → LeavesFolders h e new (IsBrought now)) where
          is_whole : (h.held e ≡ Some (with_image now (with_log (marked_log bytes) (with_log bytes stands.some))))
              × AllLeft h e (HasImage (with_image now (with_log (marked_log bytes) (with_log bytes stands.some))))
          is_whole = whole h a b (now ∷ []) (with_log bytes stands.some) bytes now found refl
              (stands_gives stands.log base now stands.stands stands.some.image stands.image)
              (marking (now ∷ []) (with_log bytes stands.some) bytes found refl) is_marked e moments base (sym stands.image) stays ok

          is_brought : AllLeft h e (IsBrought now)
          is_brought = brought h a b (now ∷ []) (with_log bytes stands.some) bytes now found refl
              (stands_gives stands.log base now stands.stands stands.some.image stands.image)
              (marking (now ∷ []) (with_log bytes stands.some) bytes found refl) is_marked e moments base (sym stands.image) stays ok

          pub new_renewing : IsRenewing h d (Some log) used new now
          new_renewing = renewing new (joined h a e new (GivesOneOf (now ∷ [])) landing
              (weaker h e new (IsBrought now) (GivesOneOf (now ∷ [])) (λ s is. (now, only_here now, is.1))
              (making (with_image now (with_log (marked_log bytes) (with_log bytes stands.some))) is_whole.0 is_brought)))

          pub new_serves : (l : Log F G) → ((s : Folder) → h.held e ≡ Some s → s.image ≡ now → AllLeft h e (IsBrought now)
              → IsServing h new l now) → IsServing h new l now
          new_serves l serves = serves (with_image now (with_log (marked_log bytes) (with_log bytes stands.some)))
              is_whole.0 refl is_brought

-- what is said of a log that was made holds for each way to it
pub if_made : {T E : Type 0} {A : Type 0} (P : A → T → Type 0) (Q : T → Type 0) (r : Result T E) → IfOk r Q
    → ((x : T) (a : A) → Q x → P a x) → IfOk r (λ x. (a : A) → P a x)
if_made P Q (Ok x) q f = λ a. f x a q
if_made P Q (Err e) q f = tt
