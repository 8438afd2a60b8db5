-- The two blocks that an entry of GEOS names.
use Rattle.std.proofs.Common.{◌≡◌, ◌≢◌, Bool, true, false, None, Option, Some, ap, refl, sym, ◌∙◌}
use Rattle.std.specs.Prelude.{◌&&◌, IfSome, not, slice_index}
use Rattle.std.proofs.lemmas.Bool.{false≢true}
use Rattle.std.proofs.lemmas.Bool.Decides.{Decides-eqb}
use Rattle.d64_image.proofs.Places.{place_at-some}
use Rattle.d64_image.specs.declared.place.Place.{Place}
use Rattle.disk_layout.specs.Chain.{named_at}
use Rattle.disk_layout.specs.declared.slot.Slot.{Slot}
use Rattle.geos_files.specs.Entries.{has_geos_type, is_closed_plain, is_like_geos, names_one_block, naming_both}

last-not : (a b c : Bool) → (a && (b && not c)) ≡ true → c ≡ false
last-not true true false is = refl
last-not true true true is = cc
last-not true false c is = cc
last-not false b c is = cc

both-true : (a b : Bool) → a ≡ true → b ≡ true → (a && b) ≡ true
both-true true true x y = refl
both-true true false x y = y
both-true false b x y = x

naming-two : (s : Slot) (h : Bool) (o p : Option Place) → names_one_block s ≡ false → named_at s.bytes 21 ≡ o
    → named_at s.bytes 3 ≡ p → IfSome (naming_both h o p) (λ e. e.info ≢ e.first)
naming-two s h None p two info first = tt
naming-two s h (Some i) None two info first = tt
naming-two s h (Some i) (Some f) two info first = λ same.
    let a = place_at-some _ _ i info in
    let b = place_at-some _ _ f first in
    let track = sym a.0 ∙ ap (λ (p : Place). p.track) same ∙ b.0 in
    let sector = sym a.1 ∙ ap (λ (p : Place). p.sector) same ∙ b.1 in
    false≢true (sym two ∙ both-true _ _ ((Decides-eqb _ _).1 track) ((Decides-eqb _ _).1 sector))

pub naming-apart : (s : Slot) (h : Bool) → is_like_geos s ≡ true
    → IfSome (naming_both h (named_at s.bytes 21) (named_at s.bytes 3)) (λ e. e.info ≢ e.first)
naming-apart s h like =
    naming-two s h _ _ (last-not (is_closed_plain s) (has_geos_type s) (names_one_block s) like) refl refl
