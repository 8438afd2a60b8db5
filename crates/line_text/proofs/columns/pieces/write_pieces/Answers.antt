-- A piece more was written, and its comma; and at last the last piece.
use Rattle.std.proofs.Common.{◌≡◌, ◌-◌, ◌++◌, ◌∷◌, ◌∙◌, [], List, ap, drop, subst, sym, ℕ}
use Rattle.std.specs.Io.KnownBytes.{Appends}
use Rattle.std.proofs.KnownBytes.{Appends-trans}
use Rattle.std.proofs.lemmas.List.{append-nil, append_assoc, take_rest}
use Rattle.std.proofs.lemmas.Result.{on_ok_weaker}
use Rattle.line_text.specs.bytes.Texts.{trimmed}
use Rattle.line_text.specs.columns.Columns.{quoted}
use Rattle.line_text.specs.columns.Pieces.{piece_columns}
use Rattle.line_text.proofs.lemmas.columns.CutPieces.{piece-last, piece-more, piece-none}
use Rattle.line_text.proofs.columns.pieces.write_pieces.Goals as goal

pub loop-rest-preserved : goal.loop-rest-preserved
loop-rest-preserved g c =
    let rest = c.loop-rest.rest.now in
    let before = c.loop-rest.invariant in
    rw (take_rest rest 1) (
      (before.0 ++ _) ++ 44 ∷ [],
      Appends-trans _ _ _ _ _ (Appends-trans _ _ _ _ _ before.1 c.in_ok-write_column.ensures)
          c.in_ok-write_all.ensures.bytes,
      written-more before.0 _ (piece_columns (drop 1 rest) c.args.bytes.now) _ _
          (piece-more rest c.args.bytes.now c.in-len2-up.len_at_least
          ∙ ap (λ (xs : List ℕ). quoted (trimmed xs) ++ 44 ∷ piece_columns (drop 1 rest) c.args.bytes.now)
          (sym c.bytes_between.ensures)) before.2,
    )
  where
    written-more : (written column rest here all : List ℕ) → here ≡ column ++ 44 ∷ rest → written ++ here ≡ all
        → ((written ++ column) ++ 44 ∷ []) ++ rest ≡ all
    written-more written column rest here all is so_far =
        append_assoc (written ++ column) (44 ∷ []) rest ∙ append_assoc written column (44 ∷ rest)
        ∙ ap (λ (t : List ℕ). written ++ t) (sym is) ∙ so_far

pub returns-in-empty : goal.returns-in-empty
returns-in-empty g c =
    let before = c.loop-rest.invariant in
    subst (Appends (g.W.Write.contents c.args.out.now) (g.W.Write.contents c.loop-rest.out))
    (sym (append-nil before.0) ∙ ap (λ (t : List ℕ). before.0 ++ t)
    (sym (piece-none c.loop-rest.rest.now c.args.bytes.now c.in-empty.len_below)) ∙ before.2) before.1

pub returns-in-len1-up : goal.returns-in-len1-up
returns-in-len1-up g c =
    let before = c.loop-rest.invariant in
    on_ok_weaker c.write_column-in-len1-up.result
    (λ done. subst (Appends (g.W.Write.contents c.args.out.now) (g.W.Write.contents c.write_column-in-len1-up.new.out))
    (ap (λ (xs : List ℕ). before.0 ++ quoted (trimmed xs)) (c.bytes_from.ensures ∙ ap (λ (n : ℕ). drop n c.args.bytes.now) (c.saturating_sub.ensures
    ∙ ap (λ (n : ℕ). n - 1) c.from.ensures)) ∙ ap (λ (t : List ℕ). before.0 ++ t)
    (sym (piece-last c.loop-rest.rest.now c.args.bytes.now c.in_default.len_below c.in-len1-up.len_at_least)) ∙ before.2)
    (Appends-trans _ _ _ _ _ before.1 done))
    c.write_column-in-len1-up.ensures
