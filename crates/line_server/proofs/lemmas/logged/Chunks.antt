-- The sectors of an image's bytes.
use Rattle.std.proofs.Common.{◌≡◌, ◌/◌, ℕ, List, ap, arith, length}
use Rattle.std.specs.Simd.{first_chunks}
use Rattle.d64_image.specs.Memory.{sectors_in}

pub sectors_are : (bytes : List ℕ) → length bytes ≡ 174848
    → first_chunks 256 (length bytes / 256) bytes ≡ sectors_in bytes
unfolding sectors_in
sectors_are bytes size =
    let e : length bytes / 256 ≡ 683 = omega (arith, size) in
    ap (λ n. first_chunks 256 n bytes) e
