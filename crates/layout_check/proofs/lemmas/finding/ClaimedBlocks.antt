-- The steps of a walk along an entry's chain that claims what it comes to.
use Rattle.std.proofs.Common.{
  ℕ,
  ◌≡◌,
  ◌≢◌,
  ◌<◌,
  ◌⊎◌,
  List,
  [],
  ◌∷◌,
  ◌++◌,
  arith,
  inl,
  inr,
  length,
  length-append,
  subst,
  sym,
  ◌∙◌,
}
use Rattle.std.specs.Prelude.{Contains}
use Rattle.d64_image.specs.History.{History}
use Rattle.d64_image.specs.declared.place.Place.{Place}
use Rattle.disk_layout.proofs.lemmas.lists.Count.{places-few}
use Rattle.disk_layout.proofs.lemmas.lists.Once.{EachOnce-push}
use Rattle.disk_layout.specs.Chain.{EachOnce, Leads, LinksNowhere, Names}
use Rattle.disk_layout.specs.Fault.{IsClosed}
use Rattle.disk_layout.specs.declared.faults.Fault.{Fault}
use Rattle.disk_layout.specs.declared.faults.Fault.TheVariants.{BadLink, Loop, OwnedTwice}
use Rattle.disk_layout.specs.declared.slot.Slot.{Slot}
use Rattle.layout_check.proofs.lemmas.judging.Calls.{passes_weaker}
use Rattle.layout_check.proofs.lemmas.finding.Finding.{contains_or_not}
use Rattle.layout_check.specs.Calls.{Passes, TellsUnsound}
use Rattle.layout_check.specs.Owners.{IsClaimed, owner_of}
use Rattle.layout_check.specs.SurveyedEntry.{TellsOrClashes}
use Rattle.layout_check.specs.declared.owners.Owners.{Owners}

-- what nobody owns now wasn't claimed
pub unclaimed : (old now : Owners) (n : ℕ) (ps : List Place) (p : Place) → IsClaimed old now n ps → n < 255
    → owner_of now p ≡ 255 → ¬ (Contains ps p)
unclaimed old now n ps p claimed some free c = omega (arith, some, free, ((claimed p).0 c).1)

-- one more sector leaves less to visit
pub room-left : (ps : List Place) (p : Place) → EachOnce ps → ¬ (Contains ps p) → length ps < 683
room-left ps p once new = omega (
  arith,
  places-few (ps ++ p ∷ []) (EachOnce-push ps p once new),
  length-append ps (p ∷ []),
)

module _ {D : Type 0} (S : History D) where
  -- the chain leads to a sector that has an owner: itself, or another
  pub owned-tells : (a b : D) (s : Slot) (n : ℕ) (t u : Owners) (first at : Place) (ps : List Place) (f : Fault)
      → IsClosed (S.image a) s.sector s → Names s.bytes 3 first → Leads (S.image a) first ps at → EachOnce ps
      → IsClaimed t u n ps → Passes S a b (length ps) → owner_of u at ≢ 255 → (Contains ps at → f ≡ Loop at)
      → (¬ (Contains ps at) → f ≡ OwnedTwice at) → TellsOrClashes S a b s t f
  owned-tells a b s n t u first at ps f closed named leads once claimed passes owned own other =
      step (contains_or_not ps at)
    where
      there : Passes S a b 732
      there = passes_weaker S a b (length ps) 732 (omega (arith, places-few ps once)) passes

      step : Contains ps at ⊎ ¬ (Contains ps at) → TellsOrClashes S a b s t f
      step (inl c) = inl (let P : Fault → Type 0 = λ x. TellsUnsound S a b 732 x in
          subst P (sym (own c)) (record {
            reads = there.reads;
            failures = there.failures;
            holds = inr (s.sector, s, closed, first, named, ps, (leads, once, c));
          }))
      step (inr c) = inr (record {
        place = at;
        told = other c;
        passes = there;
        owned = λ z. owned ((claimed at).1 c ∙ z);
        has = inl (
          s.sector,
          closed,
          record {
            first = first;
            named = named;
            before = ps;
            visits = (leads, EachOnce-push ps at once c);
          },
        );
      })

  -- its last sector links to no place
  pub unlinked-tells : (a b : D) (s : Slot) (t : Owners) (first at : Place) (ps : List Place)
      → IsClosed (S.image a) s.sector s → Names s.bytes 3 first → Leads (S.image a) first ps at → EachOnce ps
      → ¬ (Contains ps at) → LinksNowhere (S.image a) at → Passes S a b 732 → TellsOrClashes S a b s t (BadLink at)
  unlinked-tells a b s t first at ps closed named leads once new nowhere passes = inl (record {
    reads = passes.reads;
    failures = passes.failures;
    holds = inr (inr (inr (
      s.sector,
      s,
      closed,
      record {
        first = first;
        named = named;
        before = ps;
        visits = (leads, EachOnce-push ps at once new);
      },
      nowhere,
    )));
  })
