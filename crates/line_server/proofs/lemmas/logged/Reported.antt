-- Replies that are reported one after another.
use Rattle.std.proofs.Common.{◌≡◌, ◌∙◌, ◌<◌, ◌+◌, ℕ, List, [], ◌∷◌, ◌++◌, Err, None, Ok, Result, Some, ap, append-nil, append_assoc, drop, get_or, inr, length}
use Rattle.std.proofs.Common.{subst, sym, take, true}
use Rattle.std.proofs.lemmas.List.{map-append, take-append-drop, take_more}
use Rattle.request_cards.specs.declared.reply.Reply.{Reply}
use Rattle.line_server.specs.logged.Reporting.{HandsOn, IsCutShort, LogOutput, ReportsAll, ReportsPart, over_log}
use Rattle.std.specs.Prelude.{IsErr}
use Rattle.std.proofs.lemmas.Bool.{false≢true}

-- a list around one of its elements
split_at : (rs : List Reply) (i : ℕ) (d : Reply) → i < length rs
    → take i rs ++ get_or rs i d ∷ drop (i + 1) rs ≡ rs
split_at rs i d low =
    sym (append_assoc (take i rs) (get_or rs i d ∷ []) (drop (i + 1) rs))
    ∙ ap (λ front. front ++ drop (i + 1) rs)
    (sym (take_more rs i d low))
    ∙ take-append-drop (i + 1) rs

module _ {L T : Type 0} (o : LogOutput L T) (log : L) where
  -- all of these were told behind those before
  abbrev pub AllTold : T → T → List Reply → Type 0
  AllTold old new rs = (first : T) (xs : List (Reply × L)) → o.told first old xs
      → o.told first new (xs ++ over_log log rs)

  over_more : (rs : List Reply) (r : Reply) → over_log log (rs ++ r ∷ []) ≡ over_log log rs ++ (r, log) ∷ []
  over_more rs r = map-append (λ q. (q, log)) rs (r ∷ [])

  -- and one more
  pub told_more : (old mid new : T) (rs : List Reply) (r : Reply) → AllTold old mid rs
      → ((first : T) (xs : List (Reply × L)) → o.told first mid xs → o.told first new (xs ++ (r, log) ∷ []))
      → AllTold old new (rs ++ r ∷ [])
  told_more old mid new rs r before one first xs told =
      subst (o.told first new)
      (append_assoc xs (over_log log rs) ((r, log) ∷ []) ∙ ap (λ ys. xs ++ ys) (sym (over_more rs r)))
      (one first (xs ++ over_log log rs) (before first xs told))

  -- the next one was broken off
  pub broken : (old mid new : T) (before : List Reply) (r : Reply) (rest all : List Reply) → before ++ r ∷ rest ≡ all
      → AllTold old mid before
      → ((first : T) (xs : List (Reply × L)) → o.told first mid xs → o.broken_off first new xs (r, log))
      → (first : T) (xs : List (Reply × L)) → o.told first old xs → IsCutShort o first new xs (over_log log all)
  broken old mid new before r rest all parts whole one first xs told = record {
    whole = over_log log before;
    last = Some (r, log);
    rest = over_log log rest;
    parts = sym (map-append (λ q. (q, log)) before (r ∷ rest)) ∙ ap (over_log log) parts;
    told = one first (xs ++ over_log log before) (whole first xs told);
  }

  -- they were handed on together, or couldn't be
  pub handed : {E : Type 0} (old mid new : T) (rs : List Reply) (result : Result Unit E) → AllTold old mid rs
      → HandsOn o mid new result → ReportsAll o old new (over_log log rs) result
  handed old mid new rs (Ok _) all on =
      (λ first xs told. on.0 first (xs ++ over_log log rs) (all first xs told), inr on.1)
  handed old mid new rs (Err _) all on = (
    λ first xs told. record {
      whole = over_log log rs;
      last = None;
      rest = [];
      parts = append-nil (over_log log rs);
      told = on.0 first (xs ++ over_log log rs) (all first xs told);
    },
    on.1,
  )

  -- the next of these replies was told
  pub told_next : (old mid new : T) (rs : List Reply) (i : ℕ) (d : Reply) → i < length rs → AllTold old mid (take i rs)
      → ((first : T) (xs : List (Reply × L)) → o.told first mid xs → o.told first new (xs ++ (get_or rs i d, log) ∷ []))
      → AllTold old new (take (i + 1) rs)
  told_next old mid new rs i d low before one =
      subst (AllTold old new) (sym (take_more rs i d low))
      (told_more old mid new (take i rs) (get_or rs i d) before one)

  as_part : {E : Type 0} (old new : T) (rs : List Reply) (r : Result Unit E) → IsErr r
      → ReportsPart o old new (over_log log rs) → ReportsAll o old new (over_log log rs) r
  as_part old new rs (Ok x) is part = absurd (false≢true is)
  as_part old new rs (Err e) is part = part

  -- or it was broken off
  pub broken_next : {E : Type 0} (old mid new : T) (rs : List Reply) (i : ℕ) (d : Reply) (r : Result Unit E)
      → i < length rs → AllTold old mid (take i rs)
      → ((first : T) (xs : List (Reply × L)) → o.told first mid xs → o.broken_off first new xs (get_or rs i d, log))
      → o.has_failed new ≡ true → IsErr r → ReportsAll o old new (over_log log rs) r
  broken_next old mid new rs i d r low before one failed is =
      as_part old new rs r is (
        broken old mid new (take i rs) (get_or rs i d) (drop (i + 1) rs) rs
            (split_at rs i d low) before one,
        failed,
      )
