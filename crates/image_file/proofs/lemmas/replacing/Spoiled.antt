-- A directory that begins with 255 is no sound disk's.
use Rattle.std.proofs.Common.{◌≡◌, ◌≤◌, ◌∙◌, ℕ, List, [], ◌∷◌, ap, arith, refl, sym, get_or, drop, get_or-take, get_or-drop, lit<}
use Rattle.std.specs.Prelude.{slice_index}
use Rattle.d64_image.specs.Images.{Image, sector}
use Rattle.d64_image.specs.Chunks.{sectors_in-at}
use Rattle.d64_image.specs.Memory.{sectors_in}
use Rattle.d64_image.specs.Geometry.{sectors_below}
use Rattle.d64_image.specs.Places.{index_of}
use Rattle.d64_image.specs.declared.place.Place.{Place}
use Rattle.d64_image.proofs.Places.{track_fits}
use Rattle.disk_layout.specs.Chain.{Leads, EndsAt, byte}
use Rattle.disk_layout.specs.Directory.{directory_start}
use Rattle.image_file.specs.Replacing.{IsNoDisk, IsSpoiled}

-- the first sector of a chain ends it, or links to a track
no_chain : (img : Image) (p : Place) (front : List Place) (last : Place) (u n : ℕ) → byte img p 0 ≡ n → 36 ≤ n
    → Leads img p front last → EndsAt img last u → ⊥
no_chain img p [] last u n is large leads ends =
    let here : byte img p 0 ≡ 0 = ap (λ (q : Place). byte img q 0) leads ∙ ends.0 in
    omega (arith, is, large, here)
no_chain img p (v ∷ vs) last u n is large leads ends =
    let next = leads.0 in
    let there : byte img p 0 ≡ next.track = ap (λ (q : Place). byte img q 0) (sym leads.1) ∙ leads.2.0 in
    omega (arith, is, large, there, track_fits next)

directory_is_at_358 : index_of directory_start ≡ 358
unfolding index_of sectors_below
directory_is_at_358 = refl

-- byte 0 of 18/1 stands at 91648
first_byte : (s : List ℕ) → byte (sectors_in s) directory_start 0 ≡ slice_index s 91648
unfolding sector
first_byte s =
    ap (λ (i : ℕ). get_or (get_or (sectors_in s) i []) 0 0) directory_is_at_358
    ∙ ap (λ (x : List ℕ). get_or x 0 0) (sectors_in-at s 358 (lit< tt))
    ∙ get_or-take 256 (drop 91648 s) 0 0 (lit< tt)
    ∙ get_or-drop 91648 s 0 0

pub spoiled_is_no_disk : (s : List ℕ) → IsSpoiled s → IsNoDisk s
spoiled_is_no_disk s spoiled size sound =
    let chain = sound.1.directory.chain in
    no_chain (sectors_in s) directory_start chain.front chain.last sound.1.directory.last 255 (first_byte s ∙ spoiled)
    (omega arith) chain.leads chain.ends
