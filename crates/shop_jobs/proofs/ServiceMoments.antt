-- What a power loss leaves at any moment of a service, from the opening of its folder to the landing of its log.
use Rattle.std.proofs.Common.{◌≡◌, ◌≤◌, ◌+◌, ◌∷◌, [], ℕ, List, ap, append-nil, arith, inl, inr, le_refl, le_trans, length, length-append, subst, sym, ⊎_elim}
use Rattle.std.proofs.lemmas.List.{length-map}
use Rattle.std.specs.Prelude.{◌⊎◌}
use Rattle.d64_image.specs.Images.{Image}
use Rattle.host_session.specs.runs.Chains.{told_in}
use Rattle.host_session.specs.shop.Shop.{IsSettled, Shop, start_of}
use Rattle.image_log.specs.declared.life.live_log.LiveLog.{LiveLog}
use Rattle.image_log.specs.declared.log_file.LogFile.{Ghosts}
use Rattle.image_log.specs.life.Folders.{Folder, FolderHistory}
use Rattle.image_log.specs.life.LiveLogs.{GivesAtMost, IsBeginning, IsEnding, left_from, of_live}
use Rattle.image_log.specs.life.Shops.{Gives}
use Rattle.line_server.proofs.lemmas.logged.UnderWay.{as_many_replies}
use Rattle.line_server.specs.logged.Serves.{AreFirst, HoldsFirst, IsSafe, StayFrom, shop_behind}
use Rattle.request_cards.specs.Ledgers.{replies}
use Rattle.request_cards.specs.declared.reply.Reply.{Reply}
use Rattle.shop_jobs.specs.KeptServices.{StayIn}
use Rattle.shop_jobs.specs.LandedRuns.{LeavesShops, LeftImage}

-- all of them are some first lines
all_first : (s : Shop) (ls : List (List ℕ)) (final : Image) → IsSettled final (shop_behind s ls) → HoldsFirst s ls 0 final
all_first s ls final rests = record { front = ls; rest = []; parts = append-nil ls; least = omega arith; rests = rests }

module _ {F D : Type 0} {G : Ghosts F} (h : FolderHistory D) (left : LiveLog F D G) (landed : D) (s : Shop) (final : Image)
    (ls : List (List ℕ)) (ending : IsEnding h left landed final) (rests : IsSettled final (shop_behind s ls)) where
  of_landing : (k : ℕ) (c : Image) (f : Folder) → k + 1 ≤ length ls → GivesAtMost f c → Gives f final → HoldsFirst s ls (k + 1) c
  of_landing k c f many most gives =
      subst (HoldsFirst s ls (k + 1)) (most final gives)
      (record { front = ls; rest = []; parts = append-nil ls; least = many; rests = rests })

  -- what stays while a log is served, stays while it is landed
  pub stay_in : (k : ℕ) (turns : List (Reply × LiveLog F D G)) → k + length turns ≤ length ls
      → StayFrom (of_live h) s ls k turns left → StayIn h landed s ls k turns
  stay_in k [] many x = tt
  stay_in k (t ∷ ts) many x = (
    λ c may. ⊎_elim
        (λ (was : left_from h left.folder left.log left.used ((of_live h).moment t.1) may.0). x.0.each c (may.0, was, may.2))
        (λ (gives : Gives may.0 final). of_landing k c may.0 (omega (arith, many)) may.2 gives)
        (ending.before ((of_live h).moment t.1) may.0 x.0.later may.1),
    stay_in (k + 1) ts (omega (arith, many)) x.1,
  )

-- no more replies were passed than there are lines
pub few_told : {L : Type 0} (s : Shop) (ls : List (List ℕ)) (turns : List (Reply × L))
    → AreFirst (told_in turns) (replies (start_of s) [] ls) → length turns ≤ length ls
few_told s ls turns first =
    omega (arith, ap length first.1, length-append (told_in turns) first.0, length-map turns (λ x. x.0), as_many_replies s ls)

module _ {F D : Type 0} {G : Ghosts F} (h : FolderHistory D) (opened : D) (begun left : LiveLog F D G) (landed : D) (s : Shop)
    (image final : Image) (ls : List (List ℕ)) (turns : List (Reply × LiveLog F D G))
    (beginning : IsBeginning h opened begun (λ t. Gives t image)) (safe : IsSafe (of_live h) s image ls turns begun left)
    (ending : IsEnding h left landed final) (rests : IsSettled final (shop_behind s ls)) where
  -- the image as it was, or the shop of some first lines
  abbrev Is : Image → Type 0
  Is c = (c ≡ image) ⊎ HoldsFirst s ls 0 c

  -- of what may be left since the log was landed, or was served before
  of_ending : (t : ℕ) (f : Folder) (c : Image) → GivesAtMost f c
      → left_from h left.folder left.log left.used t f ⊎ Gives f final → (of_live h).left_since left t c ⊎ Is c
  of_ending t f c most (inl was) = inl (f, was, most)
  of_ending t f c most (inr gives) = inr (inr (subst (HoldsFirst s ls 0) (most final gives) (all_first s ls final rests)))

  opened_before : h.moment opened ≤ (of_live h).moment left
  opened_before = le_trans beginning.later safe.any_moment.later

  -- or of what was left before it was begun
  of_service : (t : ℕ) (c : Image) → t ≤ h.moment opened → (of_live h).left_since left t c ⊎ Is c
      → (of_live h).left_since begun t c ⊎ Is c
  of_service t c le (inl was) = safe.any_moment.before t c (le_trans le beginning.later) was
  of_service t c le (inr is) = inr is

  since : (t : ℕ) (c : Image) → t ≤ h.moment opened → LeftImage h landed t c → (of_live h).left_since begun t c ⊎ Is c
  since t c le (f, may, most) =
      of_service t c le (of_ending t f c most (ending.before t f (le_trans le opened_before) may))

  pub service_leaves : LeavesShops h opened landed Is
  service_leaves = record {
    later = le_trans opened_before ending.later;
    each = λ c may. ⊎_elim
        (λ (was : (of_live h).left_since begun (h.moment opened) c). inl (sym (was.2 image (beginning.each was.0 was.1))))
        (λ (is : Is c). is)
        (since (h.moment opened) c (le_refl (h.moment opened)) may);
    before = λ t c le may. ⊎_elim
        (λ (was : (of_live h).left_since begun t c). before_of t c le was)
        (λ (is : Is c). inr is)
        (since t c le may);
  }
    where
      before_of : (t : ℕ) (c : Image) → t ≤ h.moment opened → (of_live h).left_since begun t c → LeftImage h opened t c ⊎ Is c
      before_of t c le (f, was, most) = ⊎_elim
          (λ (then : h.left_since opened t f). inl (f, then, most))
          (λ (gives : Gives f image). inr (inl (sym (most image gives))))
          (beginning.before t f le was)
