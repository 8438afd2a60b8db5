-- A byte of a file, where it is in its blocks.
use Rattle.std.proofs.Common.{◌≡◌, ◌<◌, ◌≤◌, ◌+◌, ◌/◌, ◌%◌, ◌∙◌, ℕ, Bool, ap, sym}
use Rattle.std.specs.Prelude.{Option, None, if◌then◌else◌, nat_lt, option_map, slice_get}
use Rattle.std.proofs.lemmas.Bool.{le-ltb, lt-ltb}
use Rattle.d64_image.specs.Images.{Image}
use Rattle.d64_image.specs.declared.place.Place.{Place}
use Rattle.disk_layout.specs.Chain.{byte}
use Rattle.disk_layout.specs.Layout.{File}
use Rattle.disk_pictures.specs.Comparisons.{file_byte, file_length}

pub past-end : (img : Image) (f : File) (i n : ℕ) → n ≡ file_length f → n ≤ i → None ≡ file_byte img f i
unfolding file_byte
past-end img f i n e past =
    sym (ap (λ (b : Bool). if b then option_map (λ p. byte img p (2 + i % 254)) (slice_get f.blocks (i / 254)) else None)
    (ap (nat_lt i) (sym e) ∙ le-ltb i n past))

pub in-block : (img : Image) (f : File) (i n : ℕ) (x : Option ℕ) (o : Option Place) → n ≡ file_length f → i < n
    → slice_get f.blocks (i / 254) ≡ o → x ≡ option_map (λ p. byte img p (2 + i % 254)) o → x ≡ file_byte img f i
unfolding file_byte
in-block img f i n x o e inside there is =
    is ∙ ap (option_map (λ p. byte img p (2 + i % 254))) (sym there)
    ∙ sym (ap (λ (b : Bool). if b then option_map (λ p. byte img p (2 + i % 254)) (slice_get f.blocks (i / 254)) else None)
    (ap (nat_lt i) (sym e) ∙ lt-ltb i n inside))
