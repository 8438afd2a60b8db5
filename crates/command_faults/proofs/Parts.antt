-- A beginning of a text, handed to an output.
use Rattle.std.proofs.Common.{◌≡◌, ◌++◌, ℕ, List, [], Option, Err, Ok, Result, ap, drop, refl, subst, sym, take, ◌∙◌}
use Rattle.std.specs.Prelude.{OnErr}
use Rattle.std.specs.Io.KnownBytes.{Appends, Keeps}
use Rattle.std.proofs.KnownBytes.{Appends-kept, Appends-nil, Appends-trans}
use Rattle.std.proofs.lemmas.List.{append-nil, append_assoc, take-append-drop}
use Rattle.line_text.specs.Handed.{AppendsPart}
use Rattle.command_faults.specs.Outputs.{HandsOn, HandsPart}

-- nothing is one, and so is all
pub part-none : (a : Option (List ℕ)) (bytes : List ℕ) → HandsPart a a bytes
part-none a bytes = ([], bytes, Appends-nil a, refl)

pub part-same : {W : Type 0} (contents : W → Option (List ℕ)) (old new : W) (bytes : List ℕ) → new ≡ old
    → HandsPart (contents old) (contents new) bytes
part-same {W} contents old new bytes same =
    subst (λ (w : W). HandsPart (contents old) (contents w) bytes) (sym same) (part-none (contents old) bytes)

pub part-all : (a b : Option (List ℕ)) (bytes : List ℕ) → Appends a b bytes → HandsPart a b bytes
part-all a b bytes whole = (bytes, [], whole, sym (append-nil bytes))

-- of a longer text too
pub part-longer : (a b : Option (List ℕ)) (bytes more : List ℕ) → HandsPart a b bytes → HandsPart a b (bytes ++ more)
part-longer a b bytes more (front, rest, appends, is) =
    (front, rest ++ more, appends, ap (λ (xs : List ℕ). xs ++ more) is ∙ append_assoc front rest more)

-- behind all of another text
pub part-behind : (a b c : Option (List ℕ)) (front bytes : List ℕ) → Appends a b front → HandsPart b c bytes
    → HandsPart a c (front ++ bytes)
part-behind a b c before bytes whole (front, rest, appends, is) = (
  before ++ front,
  rest,
  Appends-trans a b c before front whole appends,
  ap (λ (xs : List ℕ). before ++ xs) is ∙ sym (append_assoc before front rest),
)

-- behind a beginning, where what was kept of that is handed on
pub part-on : (a b c : Option (List ℕ)) (all held : List ℕ) → HandsOn a b all held → HandsPart b c held
    → HandsPart a c all
part-on a b c all held (before, first, split) (front, rest, appends, is) = (
  before ++ front,
  rest,
  Appends-trans a b c before front first appends,
  split ∙ ap (λ (xs : List ℕ). before ++ xs) is ∙ sym (append_assoc before front rest),
)

pub part-kept : (a b c : Option (List ℕ)) (bytes : List ℕ) → HandsPart a b bytes → Keeps b c → HandsPart a c bytes
part-kept a b c bytes (front, rest, appends, is) kept = (front, rest, Appends-kept a b c front appends kept, is)

-- the first bytes of a text are one
pub part-first : (a b : Option (List ℕ)) (bytes : List ℕ) → AppendsPart a b bytes → HandsPart a b bytes
part-first a b bytes (n, first) = (take n bytes, drop n bytes, first, sym (take-append-drop n bytes))

-- what holds at an error, if there is one
pub at-error : {T E P : Type 0} (r : Result T E) → P → OnErr r P
at-error (Ok x) p = tt
at-error (Err e) p = p
