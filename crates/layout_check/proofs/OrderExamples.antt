-- What the words for a repair's order and its faults say: on the disk with the file STOCK, and of any call.
use Rattle.std.proofs.Common.{ℕ, ◌≡◌, ◌≤◌, List, [], ◌∷◌, ◌++◌, length, sym, ap, refl, arith, subst, Err}
use Rattle.std.specs.Prelude.{Contains}
use Rattle.d64_image.specs.History.{History}
use Rattle.d64_image.specs.Images.{Image, Sector, sector}
use Rattle.d64_image.specs.declared.place.Place.{Place}
use Rattle.disk_layout.proofs.ExampleDisk.{entry_bytes, exact_side, stock_file, stock_layout}
use Rattle.disk_layout.proofs.Examples.{block_1}
use Rattle.disk_layout.proofs.lemmas.lists.Once.{Contains-here, Contains-nil}
use Rattle.disk_layout.specs.Directory.{directory_start, map_place, slot_in}
use Rattle.disk_layout.specs.InOrder.{IsUnderWay, WritesOnce}
use Rattle.disk_layout.specs.Layout.{count_field}
use Rattle.disk_layout.specs.declared.faults.Fault.TheVariants.{Loop}
use Rattle.layout_check.specs.Mended.{TellsDevice}
use Rattle.layout_check.specs.RepairOrder.{IsRight, repair_order}

-- 18/0, the side sector 17/1, the directory sector 18/1
pub order-stock : (u n : ℕ) → repair_order (stock_layout u n) ≡ map_place ∷ block_1 ∷ directory_start ∷ []
order-stock u n = refl

-- of the side sector its exact bytes are right, and no others
pub right-side : (u n : ℕ) (bytes : Sector) → IsRight (stock_layout u n) block_1 bytes → bytes ≡ exact_side
unfolding entry_bytes exact_side
right-side u n bytes h = h.side (stock_file u n) 0 (Contains-here (stock_file u n) []) refl refl

-- in the directory sector the block count of STOCK has to be 2
pub right-count : (u n : ℕ) (bytes : Sector) → IsRight (stock_layout u n) directory_start bytes
    → count_field (slot_in directory_start bytes 0) ≡ 2
unfolding entry_bytes
right-count u n bytes h = h.counts (stock_file u n) (Contains-here (stock_file u n) []) refl refl

-- nothing is written before the first sector is right
pub nothing-before : (Right : Place → Sector → Type 0) (p : Place) (ps : List Place) (a b : Image)
    → IsUnderWay Right (p ∷ ps) a b → ¬ (Right p (sector b p)) → (q : Place) → sector b q ≡ sector a q
nothing-before Right p ps a b h wrong q = first h.done h.split refl
  where
    first : (ds : List Place) → p ∷ ps ≡ ds ++ h.left → h.done ≡ ds → sector b q ≡ sector a q
    first [] split same = h.made.rest q (λ c. Contains-nil q (let P : List Place → Type 0 = λ xs. Contains xs q in
        subst P same c))
    first (d ∷ ds) split same =
        let one : d ≡ p = cc split in
        let P : Place → Type 0 = λ x. Right x (sector b x) in
        let Q : List Place → Type 0 = λ xs. Contains xs d in
        absurd (wrong (subst P one (h.made.right d (subst Q (sym same) (Contains-here d ds)))))

module _ {D : Type 0} (S : History D) (a b : D) (h : WritesOnce S a b) where
  -- where no sector became another, there was no write
  pub no-write : ((p : Place) → sector (S.image b) p ≡ sector (S.image a) p) → S.writes b ≤ S.writes a
  no-write same = none h.written refl
    where
      none : (ps : List Place) → h.written ≡ ps → S.writes b ≤ S.writes a
      none [] e = omega (arith, h.writes, ap (λ (xs : List Place). length xs) e)
      none (p ∷ ps) e =
          absurd (h.other p (let P : List Place → Type 0 = λ xs. Contains xs p in subst P (sym e) (Contains-here p ps))
          (same p))

-- what may be told of a sound disk is the device's, and no loop
pub loop-not_of_device : {D : Type 0} (S : History D) (a b : D) (p : Place)
    → ¬ (TellsDevice {T = ℕ} S a b (Err (Loop p)))
loop-not_of_device S a b p (failed, (q, e, there)) = cc
