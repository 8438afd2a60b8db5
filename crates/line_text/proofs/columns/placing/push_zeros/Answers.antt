-- One zero more.
use Rattle.std.proofs.Common.{◌≡◌, ◌++◌, ◌∷◌, ◌∙◌, [], List, ap, arith, sym, ℕ}
use Rattle.std.specs.Prelude.{replicate, vec_items}
use Rattle.std.proofs.lemmas.List.{append-nil, append_assoc}
use Rattle.line_text.specs.bytes.Texts.{text_of}
use Rattle.line_text.proofs.lemmas.columns.Places.{zeros-more}
use Rattle.line_text.proofs.columns.placing.push_zeros.Goals as goal

pub loop-init : goal.loop-init
loop-init c = sym (append-nil (vec_items c.args.text.now))

pub loop-preserved : goal.loop-preserved
loop-preserved c =
    c.in_ok-extend_from_slice.ensures.items ∙ ap (λ (t : List ℕ). t ++ 92 ∷ 48 ∷ 48 ∷ []) c.loop.invariant
    ∙ append_assoc (vec_items c.args.text.now) (text_of (replicate c.loop.counter 0)) (92 ∷ 48 ∷ 48 ∷ [])
    ∙ ap (λ (t : List ℕ). vec_items c.args.text.now ++ t) (zeros-more c.loop.counter)

pub returns : goal.returns
returns c =
    let all : c.loop.counter ≡ c.args.count = omega (arith, c.loop-test.false, c.loop.auto.counter-end) in
    c.loop.invariant ∙ ap (λ (n : ℕ). vec_items c.args.text.now ++ text_of (replicate n 0)) all
