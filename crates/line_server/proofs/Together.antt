-- Lines that are taken of a reader together.
use Rattle.std.proofs.Common.{◌≡◌, ◌∙◌, ◌≤◌, ℕ, List, [], ◌∷◌, ◌++◌, Option, ap, append-nil, length, map, subst, sym}
use Rattle.std.specs.Prelude.{OnSome}
use Rattle.std.specs.Io.KnownBytes.{Consumes, IsAtEnd}
use Rattle.std.proofs.KnownBytes.{Consumes-trans}
use Rattle.std.proofs.lemmas.List.{map-append}
use Rattle.request_cards.specs.Reading.{request_of}
use Rattle.line_text.specs.scripts.Lines.{lines, without_cr}
use Rattle.host_session.specs.declared.events.sources.Next.{Next}
use Rattle.host_session.specs.declared.events.sources.Next.TheVariants as next
use Rattle.line_server.specs.Batches.{AreSame, IsBatchTaken}
use Rattle.line_server.specs.Read.{AreWhole, LacksLf}
use Rattle.line_server.proofs.Cuts.{lines_more, whole_more}
use Rattle.line_server.proofs.Kept.{still_at_end}

-- the lines so far, of which these texts were kept
pub record HasLines (old now : Option (List ℕ)) (kept : List (List ℕ)) : Type 0 where
  pub handled : List ℕ
  pub whole : AreWhole handled
  pub read : Consumes old now handled
  pub same : AreSame kept (lines handled)

-- one line more, and a look behind it that takes nothing
pub line_more : (old now new seen : Option (List ℕ)) (kept : List (List ℕ)) (raw line : List ℕ)
    → HasLines old now kept → LacksLf raw → request_of line ≡ request_of (without_cr raw)
    → Consumes now new (raw ++ 10 ∷ []) → Consumes new seen [] → HasLines old seen (kept ++ line ∷ [])
line_more old now new seen kept raw line x lacks same read look =
    let whole : List ℕ = raw ++ 10 ∷ [] in
    let all : List ℕ = x.handled ++ whole in
    record {
      handled = all;
      whole = whole_more x.handled raw;
      read = subst (Consumes old seen) (append-nil all)
          (Consumes-trans old new seen all [] (Consumes-trans old now new x.handled whole x.read read) look);
      same = map-append request_of kept (line ∷ [])
          ∙ ap (λ xs. xs ++ request_of line ∷ []) x.same
          ∙ ap (λ o. map request_of (lines x.handled) ++ o ∷ []) same
          ∙ sym (ap (map request_of) (lines_more x.handled raw x.whole lacks)
          ∙ map-append request_of (lines x.handled) (without_cr raw ∷ []));
    }

-- what was read behind them
pub taken : (old now new : Option (List ℕ)) (kept : List (List ℕ)) (rest : List ℕ) (said : Next)
    → HasLines old now kept → length kept ≤ 512 → LacksLf rest → Consumes now new rest
    → (said ≡ next.Event → ⊥) → (said ≡ next.End → OnSome now (IsAtEnd new)) → IsBatchTaken old new kept said
taken old now new kept rest said x most lacks read closed end = record {
  handled = x.handled;
  rest = rest;
  whole = x.whole;
  lacks = lacks;
  read = Consumes-trans old now new x.handled rest x.read read;
  same = x.same;
  most = most;
  ahead = λ e. absurd (closed e);
  end = λ e. still_at_end old now new x.handled x.read (end e);
}
