-- What a walk along an entry's chain found.
use Rattle.std.proofs.Common.{ℕ, ◌≢◌, ◌≤◌, ◌⊎◌, Err, IsTrue, List, Ok, Result, arith, inl, inr, refl, slice_index}
use Rattle.std.specs.Prelude.{IfErr, IfOk}
use Rattle.d64_image.proofs.Moments.{no_reads, reads_weaker}
use Rattle.d64_image.specs.History.{History, OnlyReads}
use Rattle.d64_image.specs.Images.{Image}
use Rattle.d64_image.specs.declared.place.Place.{Place}
use Rattle.disk_layout.specs.Chain.{IsChain, Names, NamesNone}
use Rattle.disk_layout.specs.Fault.{Holds, HoldsOfChain, IsClosed, TellsFault}
use Rattle.disk_layout.specs.Layout.{is_rel}
use Rattle.disk_layout.specs.declared.faults.Fault.{Fault}
use Rattle.disk_layout.specs.declared.faults.Fault.TheVariants.{
  BadLength,
  BadLink,
  BadSide,
  BadType,
  CountWrong,
  Device,
  Loop,
  MapWrong,
  OwnedTwice,
  Unclosed,
}
use Rattle.disk_layout.specs.declared.slot.Slot.{Slot}
use Rattle.layout_check.proofs.lemmas.judging.Calls.{any_answer}
use Rattle.layout_check.specs.Calls.{TellsUnsound}
use Rattle.layout_check.specs.Entry.{HasBlocks}

-- what holds of the chain that a closed entry names, holds of the image
pub chain-holds : (failed : Place → Type 0) (img : Image) (q first : Place) (s : Slot) (f : Fault) → IsClosed img q s
    → Names s.bytes 3 first → HoldsOfChain failed img first f → Holds failed img f
chain-holds failed img q first s (BadLink p) closed names (vs, visits, nowhere) =
    inr (inr (inr (q, s, closed, record { first = first; named = names; before = vs; visits = visits }, nowhere)))
chain-holds failed img q first s (Loop p) closed names (vs, back) = inr (q, s, closed, first, names, vs, back)
chain-holds failed img q first s (Device p) closed names h = h
chain-holds failed img q first s (OwnedTwice p) closed names h = absurd h
chain-holds failed img q first s (BadType p) closed names h = absurd h
chain-holds failed img q first s (Unclosed p) closed names h = absurd h
chain-holds failed img q first s (BadSide p) closed names h = absurd h
chain-holds failed img q first s (BadLength p) closed names h = absurd h
chain-holds failed img q first s (CountWrong p) closed names h = absurd h
chain-holds failed img q first s (MapWrong p) closed names h = absurd h

pub blocks-found : (img : Image) (s : Slot) (first : Place) (ps : List Place) (r : Result ℕ Fault)
    → Names s.bytes 3 first → IfOk r (λ u. IsChain img first ps u) → IfOk r (HasBlocks img s ps)
blocks-found img s first ps (Ok u) names h = (first, names, h)
blocks-found img s first ps (Err e) names h = tt

module _ {D : Type 0} (S : History D) where
  pub no_first : (d : D) (q : Place) (s : Slot) → IsClosed (S.image d) q s → NamesNone s.bytes 3 → IsTrue (is_rel s)
      ⊎ (slice_index s.bytes 3 ≢ 0) → TellsUnsound S d d 720 (BadLink q)
  no_first d q s closed none why = record {
    reads = reads_weaker S d d 0 720 (omega arith) (no_reads S d);
    failures = refl;
    holds = inr (inr (inl (s, closed, none, why)));
  }

  pub chain-tells : (a b : D) (q first : Place) (s : Slot) (n : ℕ) (r : Result ℕ Fault) → n ≤ 720
      → IsClosed (S.image a) q s → Names s.bytes 3 first → IfErr r (HoldsOfChain (S.failed_at b) (S.image a) first)
      → TellsFault S a b r → OnlyReads S a b n → IfErr r (TellsUnsound S a b 720)
  chain-tells a b q first s n (Ok u) few closed names h tells reads = tt
  chain-tells a b q first s n (Err f) few closed names h tells reads = record {
    reads = reads_weaker S a b n 720 few reads;
    failures = any_answer S ℕ ℕ a b f tells;
    holds = chain-holds (S.failed_at b) (S.image a) q first s f closed names h;
  }
