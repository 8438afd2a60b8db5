-- What a text asks for: a name, or a name and a length.
use Rattle.std.proofs.Common.{◌∙◌, arith, refl, sym}
use Rattle.std.proofs.lemmas.Bool.{false≢true}
use Rattle.drive_channels.proofs.Wishes.{in-two, no-wish, too-short}
use Rattle.drive_channels.proofs.text.wish.Goals as goal

pub returns-then-is_name : goal.returns-then-is_name
returns-then-is_name c = (c.is_name.ensures.0 c.if-is_name.true, refl)

pub returns-then-text-lt4 : goal.returns-then-text-lt4
returns-then-text-lt4 c = too-short c.args.text.now c.if-text-lt4.true
    (λ name. false≢true (sym c.if-is_name.false ∙ c.is_name.ensures.1 name))

pub overflow_sub-text : goal.overflow_sub-text
overflow_sub-text c = c.if-text-lt4.false

pub returns-then-not-is_name : goal.returns-then-not-is_name
returns-then-not-is_name c = no-wish c.args.text.now c.split_at.result.0.now c.split_at.result.1.now
    (in-two c.args.text.now _ _ _ c.split_at.ensures.front c.split_at.ensures.back)
    (omega (arith, c.split_at.ensures.back_len, c.if-text-lt4.false))
    (λ name. false≢true (sym c.if-is_name.false ∙ c.is_name.ensures.1 name))
    (λ name l tail. false≢true (sym c.if-not-is_name.true ∙ c.is_name-2.ensures.1 name))

pub length_of_tail-requires : goal.length_of_tail-requires
length_of_tail-requires c = omega (arith, c.split_at.ensures.back_len, c.if-text-lt4.false)

pub returns-in_err-length : goal.returns-in_err-length
returns-in_err-length c = rw c.from_residual.ensures (no-wish c.args.text.now c.split_at.result.0.now
    c.split_at.result.1.now
    (in-two c.args.text.now _ _ _ c.split_at.ensures.front c.split_at.ensures.back)
    (omega (arith, c.split_at.ensures.back_len, c.if-text-lt4.false))
    (λ name. false≢true (sym c.if-is_name.false ∙ c.is_name.ensures.1 name))
    (λ name l tail. c.in_err-length.ensures l tail))

pub returns : goal.returns
returns c = (
  c.is_name-2.ensures.0 c.if-not-is_name.false,
  (
    c.split_at.result.1.now,
    in-two c.args.text.now _ _ _ c.split_at.ensures.front c.split_at.ensures.back,
    c.in_ok-length.ensures,
  ),
)
