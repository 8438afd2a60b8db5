-- A byte's text at the front is three bytes or one.
use Rattle.std.proofs.Common.{◌≡◌, inl, inr, ◌++◌, List, ℕ, drop, get_or, sym, ap, ◌∙◌, arith}
use Rattle.std.proofs.lemmas.Bool.{false≢true}
use Rattle.std.proofs.lemmas.List.{take_rest}
use Rattle.line_text.proofs.lemmas.bytes.Texts.{escaped-front, escaped-none, front-of, none-found, plain-front, some-lead}
use Rattle.line_text.proofs.bytes.reading.first_byte.Goals as goal
use Rattle.line_text.proofs.bytes.reading.first_byte.Goals.{
  in_default-via-then-text-lt1,
  in_default-via-else-text-lt1+in-len1-up+else-is_plain,
  then-text-lt3,
  else-text-lt3+in_default-1,
}

pub slice_bounds-rest-count : goal.slice_bounds-rest-count
slice_bounds-rest-count c = omega arith

pub bounds-text-1 : goal.bounds-text-1
bounds-text-1 c = omega arith

pub bounds-text-2 : goal.bounds-text-2
bounds-text-2 c = omega arith

pub slice_bounds-rest-start : goal.slice_bounds-rest-start
slice_bounds-rest-start c = omega arith

pub slice_bounds-rest-end : goal.slice_bounds-rest-end
slice_bounds-rest-end c = omega arith

pub slice_bounds-rest-end-2 : goal.slice_bounds-rest-end-2
slice_bounds-rest-end-2 c = omega arith

pub returns-in_err-escaped-in-92 : goal.returns-in_err-escaped-in-92
returns-in_err-escaped-in-92 c =
    let text = c.args.text.now in
    let slash : get_or text 0 0 ≡ 92 = omega arith in
    none-found c.from_residual.result _ _ c.from_residual.ensures
    (escaped-none text _ _ _ (escaped-front text c.in-92.len_at_least slash) c.in_err-escaped-in-92.ensures)

pub returns-in_ok-escaped-in-92 : goal.returns-in_ok-escaped-in-92
returns-in_ok-escaped-in-92 c =
    let text = c.args.text.now in
    let slash : get_or text 0 0 ≡ 92 = omega arith in
    rw (take_rest text 3)
    (escaped-front text c.in-92.len_at_least slash
    ∙ ap (λ (xs : List ℕ). xs ++ drop 3 text) (sym c.in_ok-escaped-in-92.ensures))

pub returns-in-len1-up : goal.returns-in-len1-up
returns-in-len1-up c = rw (take_rest c.args.text.now 1) (plain-front c.args.text.now (sym c.if-is_plain.ensures))

pub returns-in_default : goal.returns-in_default
returns-in_default c = λ b rest small same.
    let some = some-lead b c.args.text.now rest same in
    elim c.in_default.branch [
      | in_default-via-then-text-lt1 w ↦ grind (arith, some)
      | in_default-via-else-text-lt1+in-len1-up+else-is_plain w ↦ elim (front-of b c.args.text.now rest same) [
        | inl plain ↦ false≢true (w.if-is_plain.ensures ∙ plain)
        | inr slash ↦ elim w.in-len1-up-1.branch [
          | then-text-lt3 v ↦ grind (arith, slash.0)
          | else-text-lt3+in_default-1 v ↦ omega (arith, slash.1)
        ]
      ]
    ]
