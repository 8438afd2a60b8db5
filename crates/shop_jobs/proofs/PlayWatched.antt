-- A play, behind which the image's file was looked for.
use Rattle.std.proofs.Common.{◌≡◌, Bool, Err, List, Option, false, refl, subst, sym, true, ℕ}
use Rattle.std.specs.Prelude.{if◌then◌else◌}
use Rattle.command_faults.specs.declared.faults.CommandFault.TheVariants as faults
use Rattle.damaged_files.specs.declared.sides.planning.Loss.{Loss}
use Rattle.host_session.specs.shop.Shop.{Shop}
use Rattle.image_file.specs.declared.durability.WritesAt.{Ghosts}
use Rattle.image_file.specs.paths.Standing.{Stands}
use Rattle.opened_files.specs.Ends.{JobEnd}
use Rattle.opened_files.specs.HostFiles.{OfText}
use Rattle.shop_jobs.specs.FilePlays.{HoldsShop}
use Rattle.shop_jobs.specs.Replies.{AreReplyLines, IsPlainPlayed}
use Rattle.shop_jobs.specs.ServiceEnds.{IsNearEnd, IsQuietEnd}

watched : (P : JobEnd → Type 0) (gone : Bool) (ended end : JobEnd) → end ≡ (if gone then Err faults.Device else ended)
    → P ended → P (Err faults.Device) → P end
watched P true ended end is played device = subst P (sym is) device
watched P false ended end is played device = subst P (sym is) played

-- why it isn't done
pub watched_near : {H W : Type 0} (stands : H → List ℕ → Stands) (host : H) (path : List ℕ) (loss : Loss) (old new : W) (gone : Bool)
    (ended end : JobEnd) → end ≡ (if gone then Err faults.Device else ended) → IsNearEnd stands host path loss old new ended
    → IsNearEnd stands host path loss old new (Err faults.Device) → IsNearEnd stands host path loss old new end
watched_near stands host path loss old new gone ended end is played device =
    watched (IsNearEnd stands host path loss old new) gone ended end is played device

-- what was printed
pub watched_play : {H W : Type 0} (contents : W → Option (List ℕ)) (Is : Shop → Type 0) (stands : H → List ℕ → Stands) (host : H)
    (script : List ℕ) (old new : W) (gone : Bool) (ended end : JobEnd) → end ≡ (if gone then Err faults.Device else ended)
    → IsQuietEnd old new ended × AreReplyLines contents old new
    × OfText stands host script (λ all. IsPlainPlayed contents Is all old new ended)
    → IsQuietEnd old new end × AreReplyLines contents old new
    × OfText stands host script (λ all. IsPlainPlayed contents Is all old new end)
watched_play contents Is stands host script old new gone ended end is played = (
  watched (IsQuietEnd old new) gone ended end is played.0 (λ other another. absurd (another refl)),
  played.1,
  λ another all holds. watched (IsPlainPlayed contents Is all old new) gone ended end is (played.2 another all holds) (λ none. tt),
)

-- and what is left
module _ {F : Type 0} {G : Ghosts F} (s : Shop) (script : List ℕ) (file left : F) where
  pub watched_holds : (gone : Bool) (ended end : JobEnd) → end ≡ (if gone then Err faults.Device else ended)
      → HoldsShop G s script file left ended → HoldsShop G s script file left end
  watched_holds gone ended end is holds =
      watched (HoldsShop G s script file left) gone ended end is holds (record { each = holds.each; done = tt; stays = tt })
