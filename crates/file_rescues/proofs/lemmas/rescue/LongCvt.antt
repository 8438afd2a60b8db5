-- The bytes of a CVT of a file with sectors past track 35.
use Rattle.std.proofs.Common.{◌≡◌, ◌≤◌, ◌+◌, ◌-◌, ◌*◌, ◌∙◌, ◌++◌, ℕ, List, ap, append_assoc, arith, get_or, length, length-append, sym, take}
use Rattle.std.specs.Prelude.{Some, flat_map, slice_get}
use Rattle.std.proofs.lemmas.Option.{slice_get-get_or}
use Rattle.long_chains.specs.Chains.{data_in}
use Rattle.file_rescues.specs.rescue.LongCvt.{bodies, body_in, last_data}

-- the last sector's bytes came to those of the others
pub data-all : (image old mid new part ns : List ℕ) → 1 ≤ length ns
    → mid ≡ old ++ flat_map (body_in image) (take (length ns - 1) ns) → part ≡ data_in image (get_or ns (length ns - 1) 0)
    → new ≡ mid ++ part → new ≡ old ++ bodies image ns
data-all image old mid new part ns some before is more =
    let there : slice_get ns (length ns - 1) ≡ Some (get_or ns (length ns - 1) 0) =
    slice_get-get_or ns (length ns - 1) 0 (omega (arith, some)) in
    more ∙ ap (λ (l : List ℕ). l ++ part) before
    ∙ append_assoc old (flat_map (body_in image) (take (length ns - 1) ns)) part
    ∙ ap (λ (l : List ℕ). old ++ (flat_map (body_in image) (take (length ns - 1) ns) ++ l)) (is ∙ sym (ap (last_data image) there))

-- how long six parts are together
pub six-long : (none one two three four five a b c d e : List ℕ) → length none ≡ 0 → one ≡ none ++ a → two ≡ one ++ b → three ≡ two ++ c
    → four ≡ three ++ d → five ≡ four ++ e → length five ≡ length a + length b + length c + length d + length e
six-long none one two three four five a b c d e empty p q r s t = omega (
  arith,
  empty,
  ap length p,
  length-append none a,
  ap length q,
  length-append one b,
  ap length r,
  length-append two c,
  ap length s,
  length-append three d,
  ap length t,
  length-append four e,
)
