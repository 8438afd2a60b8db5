-- What a power loss leaves of a log, over calls one after another.
use Rattle.std.proofs.Common.{arith, inl, inr, sym, subst, ⊎_elim}
use Rattle.d64_image.specs.Images.{Image}
use Rattle.image_log.specs.ImageLogs.{LeavesImages, LogHistory}

module _ {L : Type 0} (h : LogHistory L) where
  -- a log as it is
  pub stays : (log : L) (image : Image) (P : Image → Type 0) → h.stands_for log image → P image
      → LeavesImages h log log P
  stays log image P stands here = record {
    later = omega arith;
    each = λ c left. subst P (sym (h.durable log image c stands (h.only_now log c left))) here;
    before = λ t c le left. inl left;
  }

  -- and then more calls
  pub goes_on : (a b d : L) (P Q R : Image → Type 0) → LeavesImages h a b P → LeavesImages h b d Q
      → ((c : Image) → P c → R c) → ((c : Image) → Q c → R c) → LeavesImages h a d R
  goes_on a b d P Q R first then from_p from_q = record {
    later = omega (arith, first.later, then.later);
    each = λ c left. ⊎_elim (λ was. from_p c (first.each c was)) (λ q. from_q c q)
        (then.before (h.moment a) c first.later left);
    before = λ t c le left. ⊎_elim
        (λ was. ⊎_elim (λ w. inl w) (λ p. inr (from_p c p)) (first.before t c le was))
        (λ q. inr (from_q c q))
        (then.before t c (omega (arith, le, first.later)) left);
  }

  pub weaker : (a b : L) (P R : Image → Type 0) → LeavesImages h a b P → ((c : Image) → P c → R c)
      → LeavesImages h a b R
  weaker a b P R only f = record {
    later = only.later;
    each = λ c left. f c (only.each c left);
    before = λ t c le left. ⊎_elim (λ was. inl was) (λ p. inr (f c p)) (only.before t c le left);
  }
