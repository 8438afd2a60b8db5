-- A repair goes over the map, then the side sectors, then the directory.
use Rattle.std.proofs.Common.{ℕ, ◌≡◌, ◌≤◌, List, [], ◌∷◌, ◌++◌, subst, sym, ◌∙◌}
use Rattle.std.specs.Prelude.{Contains}
use Rattle.std.proofs.lemmas.List.Elements.{Contains-append_left}
use Rattle.d64_image.proofs.Moments.{at_end}
use Rattle.d64_image.specs.History.{History, OnlyReads}
use Rattle.d64_image.specs.Images.{Image, Sector, sector}
use Rattle.d64_image.specs.declared.place.Place.{Place}
use Rattle.disk_layout.proofs.lemmas.kept.Orders.{made_then, over_more, over_read, over_then}
use Rattle.disk_layout.specs.Directory.{map_place}
use Rattle.disk_layout.specs.InOrder.{AreMade, GoesOver, IsUnderWay}
use Rattle.disk_layout.specs.Layout.{IsLayout, Layout}
use Rattle.layout_check.proofs.lemmas.repairing.Rights.{directory-not_map, order-once, side-not_map}
use Rattle.layout_check.specs.RepairOrder.{ClearsSpare, repair_order, sides_of}
use Rattle.layout_check.specs.Made.{HasNoSpare}

-- a sector that isn't gone over stays
pub untouched : (Right : Place → Sector → Type 0) (ps : List Place) (a b : Image) (p : Place) → ¬ (Contains ps p)
    → IsUnderWay Right ps a b → sector b p ≡ sector a p
untouched Right ps a b p out way =
    way.made.rest p (λ c. out (let P : List Place → Type 0 = λ xs. Contains xs p in
    subst P (sym way.split) (Contains-append_left way.done way.left p c)))

-- the map was written first, and stays so
pub spare-later : (a b c : Image) → sector c map_place ≡ sector b map_place → ClearsSpare a b → ClearsSpare a c
spare-later a b c same h changed = let P : Sector → Type 0 = λ x. (track : ℕ) → 1 ≤ track → track ≤ 35
    → HasNoSpare x track in subst P (sym same) (h (λ e. changed (same ∙ e)))

-- reads before it
pub spare_after : {D : Type 0} (S : History D) (a b c : D) (n : ℕ) → OnlyReads S a b n
    → ClearsSpare (S.image b) (S.image c) → ClearsSpare (S.image a) (S.image c)
spare_after S a b c n reads h = let P : Image → Type 0 = λ i. ClearsSpare i (S.image c) in subst P reads.image h

-- all that is gone over was made right, in three parts
pub made_all : (Right : Place → Sector → Type 0) (l : Layout) (a b c d : Image) → IsLayout a l
    → AreMade Right (map_place ∷ []) a b → AreMade Right (sides_of l.files) b c → AreMade Right l.directory c d
    → AreMade Right (repair_order l) a d
made_all Right l a b c d is map sides counts =
    made_then Right (map_place ∷ []) (sides_of l.files ++ l.directory) a b d (order-once a l is) map
    (made_then Right (sides_of l.files) l.directory b c d (order-once a l is).1 sides counts)

-- made right of the image before the reads
pub made_after : (Right : Place → Sector → Type 0) (l : Layout) (a b c : Image) → b ≡ a → IsLayout a l
    → AreMade Right (repair_order l) b c → AreMade Right (repair_order l) a c
made_after Right l a b c same is made = let Q : Image → Type 0 = λ i. AreMade Right (repair_order l) i c in
    subst Q same made

-- a layout of the image before the reads is one of the image after them
pub layout_at : (a b : Image) (l : Layout) → b ≡ a → IsLayout a l → IsLayout b l
layout_at a b l same is = let P : Image → Type 0 = λ i. IsLayout i l in subst P (sym same) is

module _ {D : Type 0} (S : History D) (Right : Place → Sector → Type 0) (l : Layout) where
  -- after the map, it goes over the side sectors
  pub order_map : (a b : D) → GoesOver S a b Right (map_place ∷ []) → GoesOver S a b Right (repair_order l)
  order_map a b h = over_more S Right (map_place ∷ []) (sides_of l.files ++ l.directory) a b h

  -- and after these, over the directory
  pub order_sides : (a b c : D) → IsLayout (S.image a) l → GoesOver S a b Right (map_place ∷ [])
      → AreMade Right (map_place ∷ []) (S.image a) (S.image b)
      → GoesOver S b c Right (sides_of l.files) → GoesOver S a c Right (repair_order l)
  order_sides a b c is map made sides =
      over_then S Right (map_place ∷ []) (sides_of l.files ++ l.directory) a b c (order-once (S.image a) l is) map
      made
      (over_more S Right (sides_of l.files) l.directory b c sides)

  pub order_all : (a b c d : D) → IsLayout (S.image a) l → GoesOver S a b Right (map_place ∷ [])
      → AreMade Right (map_place ∷ []) (S.image a) (S.image b)
      → GoesOver S b c Right (sides_of l.files) → AreMade Right (sides_of l.files) (S.image b) (S.image c)
      → GoesOver S c d Right l.directory → GoesOver S a d Right (repair_order l)
  order_all a b c d is map made sides made_sides counts =
      over_then S Right (map_place ∷ []) (sides_of l.files ++ l.directory) a b d (order-once (S.image a) l is) map
      made
      (over_then S Right (sides_of l.files) l.directory b c d (order-once (S.image a) l is).1 sides made_sides
      counts)

  -- reads before it
  pub order_after : (a b c : D) (n : ℕ) → IsLayout (S.image a) l → OnlyReads S a b n
      → (IsLayout (S.image b) l → GoesOver S b c Right (repair_order l))
      → GoesOver S a c Right (repair_order l)
  order_after a b c n is reads h =
      let P : Image → Type 0 = λ i. IsLayout i l in
      over_read S Right (repair_order l) a b c n (order-once (S.image a) l is) reads
      (h (subst P (sym reads.image) is))

  -- the map of a repair that went on
  pub spare_sides : (a b c : D) → IsLayout (S.image b) l → ClearsSpare (S.image a) (S.image b)
      → GoesOver S b c Right (sides_of l.files) → ClearsSpare (S.image a) (S.image c)
  spare_sides a b c is h sides =
      spare-later (S.image a) (S.image b) (S.image c) (untouched Right (sides_of l.files) (S.image b) (S.image c)
      map_place (side-not_map (S.image b) l is) (at_end S b c _ sides.held)) h

  pub spare_counts : (a b c : D) → IsLayout (S.image b) l → ClearsSpare (S.image a) (S.image b)
      → GoesOver S b c Right l.directory → ClearsSpare (S.image a) (S.image c)
  spare_counts a b c is h counts =
      spare-later (S.image a) (S.image b) (S.image c) (untouched Right l.directory (S.image b) (S.image c)
      map_place (directory-not_map (S.image b) l is) (at_end S b c _ counts.held)) h
