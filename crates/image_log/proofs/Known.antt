-- The blocks of a log, read from the last one on.
use Rattle.std.proofs.Common.{◌≡◌, ◌<◌, ◌∙◌, ℕ, Bool, List, arith, false, inl, inr, length, set, subst, sym}
use Rattle.std.proofs.lemmas.Bool.{cases_eq}
use Rattle.std.proofs.lemmas.List.{get_or-set_other, get_or-set_same}
use Rattle.std.specs.Prelude.{IsTrue, ◌↔◌}
use Rattle.image_log.specs.Blocks.{IsBlank, block_at, is_last, is_whole}
use Rattle.image_log.specs.Readers.{AreKnown, IsKnown}
use Rattle.image_log.specs.declared.log_blocks.LogBlocks.{LogBlocks}

-- one block more
pub known_more : (b : LogBlocks) (f : List ℕ) (n : ℕ) (w l z : Bool) → n < 1024
    → length b.whole ≡ 1024 → length b.last ≡ 1024 → length b.blank ≡ 1024
    → w ≡ is_whole n (block_at f n) → l ≡ is_last (block_at f n) → (IsTrue z ↔ IsBlank (block_at f n))
    → ((q : ℕ) → n < q → q < 1024 → IsKnown b f q)
    → AreKnown (record { whole = set b.whole n w; last = set b.last n l; blank = set b.blank n z }) f n
known_more b f n w l z within lw ll lz is_w is_l is_z rest q from low = elim (cases_eq q n) [
  | inl is ↦ subst (IsKnown (record { whole = set b.whole n w; last = set b.last n l; blank = set b.blank n z }) f) (sym is) (record {
    whole = get_or-set_same b.whole n w false (omega (arith, within, lw)) ∙ is_w;
    last = get_or-set_same b.last n l false (omega (arith, within, ll)) ∙ is_l;
    blank = subst (λ (x : Bool). IsTrue x ↔ IsBlank (block_at f n)) (sym (get_or-set_same b.blank n z false (omega (arith, within, lz)))) is_z;
  })
  | inr other ↦
      let was = rest q (omega (arith, from, other)) low in
      record {
        whole = get_or-set_other b.whole n q w false other ∙ was.whole;
        last = get_or-set_other b.last n q l false other ∙ was.last;
        blank = subst (λ (x : Bool). IsTrue x ↔ IsBlank (block_at f q)) (sym (get_or-set_other b.blank n q z false other)) was.blank;
      }
]
