-- Images that say that their log is away.
use Rattle.std.proofs.Common.{◌≡◌, ◌⊎◌, ℕ, List, Err, inl, inr, refl, subst, sym}
use Rattle.std.specs.Prelude.{IfErr, IsErr}
use Rattle.opened_files.specs.Ends.{JobEnd}
use Rattle.opened_files.specs.HostFiles.{IsUnbegun, IsUnread}
use Rattle.opened_files.specs.Losses.{IsAwayFault, IsTagFault, NearRunEnds}
use Rattle.damaged_files.specs.declared.sides.planning.Loss.{Loss}
use Rattle.command_faults.specs.declared.faults.CommandFault.{CommandFault}
use Rattle.command_faults.specs.declared.faults.CommandFault.TheVariants as faults
use Rattle.image_log.specs.life.Tags.{SaysLogAway}

-- an image that still says so isn't changed
pub tag-fault : (loss : Loss) (image : List ℕ) (Says : Type 0) (refusal : CommandFault) → (SaysLogAway image → Says)
    → IsTagFault loss image refusal → IsUnbegun refusal ⊎ IsAwayFault loss Says refusal
tag-fault loss image Says refusal of (inl (away, refused, says)) = inr (away, refused, of says)
tag-fault loss image Says refusal of (inr (device, accepted, says)) = inl (inr (inl device))

-- what isn't begun for another reason isn't refused for that
pub unbegun-near : (refusal : CommandFault) → IsUnbegun refusal → refusal ≡ faults.LogAway → ⊥
unbegun-near refusal (inl (inl unread)) is = subst IsUnread is unread
unbegun-near refusal (inl (inr two)) is = cc
unbegun-near refusal (inr (inl device)) is = cc
unbegun-near refusal (inr (inr log)) is = cc

-- a job that isn't begun
pub not-near : {W : Type 0} (w : W) (end : JobEnd) (P Says : Type 0) (loss : Loss) (refusal : CommandFault) → end ≡ Err refusal
    → IsUnbegun refusal ⊎ IsAwayFault loss Says refusal → NearRunEnds loss Says w w end P
not-near w end P Says loss refusal is (inl unbegun) =
    inl (inr (refl, subst (λ (e : JobEnd). IsErr e) (sym is) refl, subst (λ (e : JobEnd). IfErr e IsUnbegun) (sym is) unbegun))
not-near w end P Says loss refusal is (inr away) = inr (
  refl,
  subst (λ (e : JobEnd). IsErr e) (sym is) refl,
  subst (λ (e : JobEnd). IfErr e (IsAwayFault loss Says)) (sym is) away,
)
