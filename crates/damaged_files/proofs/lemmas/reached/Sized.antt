-- An image of one of the six sizes has the sectors of 35 tracks.
use Rattle.std.proofs.Common.{◌≡◌, ◌≤◌, ℕ, Bool, List, ap, arith, false, le_refl, length, refl, take, true}
use Rattle.std.proofs.lemmas.Bool.Decides.{nat_tests}
use Rattle.std.proofs.lemmas.List.{length-take-le, take_all}
use Rattle.std.specs.Prelude.{if◌then◌else◌}
use Rattle.damaged_files.specs.reached.Sizes.{IsImageSize, disk_of, is_image_size}

pub large : (n : ℕ) → IsImageSize n → 174848 ≤ n
large n is = grind (arith, nat_tests, is)

pub length-tracks : (image : List ℕ) → IsImageSize (length image) → length (take 174848 image) ≡ 174848
length-tracks image is = length-take-le 174848 image (large (length image) is)

disk-of-size : (image : List ℕ) (b : Bool) → is_image_size (length image) ≡ b
    → take (length (if b then take 174848 image else image)) image ≡ (if b then take 174848 image else image)
disk-of-size image true is = ap (λ (n : ℕ). take n image) (length-tracks image is)
disk-of-size image false is = take_all (length image) image (le_refl (length image))

-- the disk in an image is the front of the image
pub take-disk : (image : List ℕ) → take (length (disk_of image)) image ≡ disk_of image
take-disk image = disk-of-size image (is_image_size (length image)) refl
