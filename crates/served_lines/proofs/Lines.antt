-- Lines that are taken byte by byte.
use Rattle.std.proofs.Common.{◌≡◌, ◌≢◌, ◌≤◌, ◌<◌, ◌==◌, ◌∙◌, ℕ, true, false, List, [], ◌∷◌, ◌++◌, ap, append-nil, append_assoc, arith, inl, inr, length, map, refl, subst, sym, take, Result, Ok, Err}
use Rattle.std.specs.Prelude.{IsOk, OnErr, OnOk}
use Rattle.std.proofs.lemmas.Bool.{cases_Bool, eqb-true, eq-eqb}
use Rattle.std.proofs.lemmas.List.{length-append, length-map, map-append, take-append-le, take_all}
use Rattle.arrayvec.specs.ArrayVec.{ArrayVec}
use Rattle.request_cards.specs.Reading.{request_of}
use Rattle.line_text.specs.scripts.Lines.{lines, without_cr}
use Rattle.line_server.specs.Batches.{texts_of}
use Rattle.line_server.specs.Read.{LacksLf}
use Rattle.line_server.proofs.Cuts.{lines_more, whole_more}
use Rattle.line_server.proofs.Kept.{kept_more, lacks_more}
use Rattle.line_server.proofs.Long.{same_message}
use Rattle.served_lines.specs.Taken.{TakesLines}

-- a byte more is kept, as far as there is room
pub pushed : {E : Type 0} (r : Result Unit E) (old new : ArrayVec ℕ) (b : ℕ) → (IsOk r → length old.items < 40)
    → OnOk r (new.items ≡ old.items ++ b ∷ []) → OnErr r (new ≡ old) → OnErr r (length old.items ≡ 40) → new.items ≡ take 40 (old.items ++ b ∷ [])
pushed (Ok x) old new b short is same full =
    is ∙ sym (take_all 40 (old.items ++ b ∷ []) (omega (arith, short refl, length-append old.items (b ∷ []))))
pushed (Err e) old new b short is same full =
    ap (λ (l : ArrayVec ℕ). l.items) same
    ∙ sym (take-append-le 40 old.items (b ∷ []) (omega (arith, full)) ∙ take_all 40 old.items (omega (arith, full)))

-- no byte was looked at
pub takes_none : (raw kept : List ℕ) → LacksLf raw → kept ≡ take 40 raw → TakesLines raw [] kept []
takes_none raw kept lacks is = record {
  handled = [];
  begun = raw;
  parts = append-nil raw;
  whole = inl refl;
  lacks = lacks;
  kept_is = is;
  same = refl;
}

module _ (raw bytes kept after : List ℕ) (texts more : List (List ℕ)) (t : TakesLines raw bytes kept texts) where
  -- an LF more
  takes_lf : after ≡ [] → more ≡ texts ++ without_cr kept ∷ [] → TakesLines raw (bytes ++ 10 ∷ []) after more
  takes_lf none is = record {
    handled = t.handled ++ (t.begun ++ 10 ∷ []);
    begun = [];
    parts = sym (append_assoc raw bytes (10 ∷ [])) ∙ ap (λ l. l ++ 10 ∷ []) t.parts ∙ append_assoc t.handled t.begun (10 ∷ [])
        ∙ sym (append-nil (t.handled ++ (t.begun ++ 10 ∷ [])));
    whole = whole_more t.handled t.begun;
    lacks = tt;
    kept_is = none;
    same = ap (map request_of) is
        ∙ map-append request_of texts (without_cr kept ∷ [])
        ∙ ap (λ xs. xs ++ request_of (without_cr kept) ∷ []) t.same
        ∙ ap (λ o. map request_of (lines t.handled) ++ o ∷ []) (same_message t.begun kept t.kept_is)
        ∙ sym (ap (map request_of) (lines_more t.handled t.begun t.whole t.lacks)
        ∙ map-append request_of (lines t.handled) (without_cr t.begun ∷ []));
  }

  -- another byte more
  takes_other : (b : ℕ) → b ≢ 10 → after ≡ take 40 (kept ++ b ∷ []) → more ≡ texts → TakesLines raw (bytes ++ b ∷ []) after more
  takes_other b isnt is same = record {
    handled = t.handled;
    begun = t.begun ++ b ∷ [];
    parts = sym (append_assoc raw bytes (b ∷ [])) ∙ ap (λ l. l ++ b ∷ []) t.parts ∙ append_assoc t.handled t.begun (b ∷ []);
    whole = t.whole;
    lacks = lacks_more t.begun (b ∷ []) t.lacks (isnt, tt);
    kept_is = is ∙ ap (λ l. take 40 (l ++ b ∷ [])) t.kept_is ∙ kept_more t.begun (b ∷ []);
    same = ap (map request_of) same ∙ t.same;
  }

  pub takes_byte : (b : ℕ) → (b ≡ 10 → (after ≡ []) × (more ≡ texts ++ without_cr kept ∷ []))
      → (b ≢ 10 → (after ≡ take 40 (kept ++ b ∷ [])) × (more ≡ texts)) → TakesLines raw (bytes ++ b ∷ []) after more
  takes_byte b lf other = elim (cases_Bool (b == 10)) [
    | inl is ↦
        let ten : b ≡ 10 = eqb-true b 10 is in
        subst (λ x. TakesLines raw (bytes ++ x ∷ []) after more) (sym ten) (takes_lf (lf ten).0 (lf ten).1)
    | inr isnt ↦
        let apart : b ≢ 10 = λ e. true_not (sym (eq-eqb b 10 e) ∙ isnt) in
        takes_other b apart (other apart).0 (other apart).1
  ]
    where
      true_not : true ≡ false → ⊥
      true_not e = cc e

-- a line more at most
pub few_more : (old new : List (ArrayVec ℕ)) (b : ℕ) (kept : List ℕ) → length old ≤ 512 → length old ≢ 512
    → (b ≡ 10 → texts_of new ≡ texts_of old ++ kept ∷ []) → (b ≢ 10 → new ≡ old) → length new ≤ 512
few_more old new b kept few full lf other = elim (cases_Bool (b == 10)) [
  | inl is ↦
      let more = ap length (lf (eqb-true b 10 is)) ∙ length-append (texts_of old) (kept ∷ []) in
      omega (arith, more, few, full, length-map old (λ (l : ArrayVec ℕ). l.items), length-map new (λ (l : ArrayVec ℕ). l.items))
  | inr isnt ↦ omega (arith, few, ap length (other (λ e. differ (sym (eq-eqb b 10 e) ∙ isnt))))
]
  where
    differ : true ≡ false → ⊥
    differ e = cc e
