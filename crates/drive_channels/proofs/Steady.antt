-- What the fields of a drive say of what it shows.
use Rattle.std.specs.Result.{IsErrAnd}
use Rattle.std.proofs.Common.{
  Result,
  ℕ,
  ◌≡◌,
  ◌≢◌,
  ◌≤◌,
  Bool,
  true,
  false,
  Option,
  None,
  Some,
  IfSome,
  Ok,
  Err,
  sym,
  ◌∙◌,
  ap,
  subst,
  refl,
}
use Rattle.std.proofs.lemmas.Option.{same_Some, none-some}
use Rattle.d64_image.specs.History.{Failed, History}
use Rattle.d64_image.specs.Images.{Image}
use Rattle.rel_records.specs.File.{entry_of}
use Rattle.drive_channels.specs.Inside.{IsFound, IsKnown, IsSpot, channel_in, channel_of, seen_of}
use Rattle.drive_channels.specs.Serving.{IsChannel, IsOrderly, Serves}
use Rattle.drive_channels.specs.State.{Channel, Seen}
use Rattle.drive_channels.specs.declared.open_file.NamedFile.{NamedFile}
use Rattle.drive_channels.specs.declared.open_file.OpenFile.{OpenFile}
use Rattle.drive_channels.specs.declared.open_file.Position.{Position}
use Rattle.drive_channels.specs.declared.open_files.OpenFiles.{OpenFiles}
use Rattle.drive_channels.specs.declared.drive.Drive.TheInside.{Inside}

-- the channel of an opened file
pub channel-right : (img : Image) (e : NamedFile) (s : Position) → IsFound img e → IsSpot e s
    → IsChannel img (record {
      number = s.channel;
      entry = entry_of e.file;
      record_number = s.record_number;
      position = s.position;
    })
channel-right img e s found spot = record {
  low = spot.low;
  high = spot.high;
  layout = found.layout;
  file = found.file;
  rel = record { layout = found.of.layout; there = found.of.there; rel = found.of.rel };
  record_from = spot.record_from;
  from = spot.from;
  within = subst (λ (L : ℕ). s.position ≤ L) found.of.shows.size spot.within;
}

pub last-right : (img : Image) (last : Option OpenFile) (c : Channel) → IfSome last (λ o. IsFound img o.found)
    → IfSome last (λ o. IfSome o.spot (IsSpot o.found))
    → channel_of last ≡ Some c → IsChannel img c
last-right img None c found spot e = absurd (none-some c e)
last-right img (Some o) c found spot e = at o.spot spot e
  where
    at : (spot : Option Position) → IfSome spot (IsSpot o.found) → channel_in (entry_of o.found.file) spot ≡ Some c
        → IsChannel img c
    at None h e = absurd (none-some c e)
    at (Some s) h e = subst (IsChannel img) (same_Some _ _ e) (channel-right img o.found s found h)

-- a drive that knows what is so is orderly
pub orderly : {D : Type 0} (S : History D) (d : Inside D) → IsKnown (S.image d.disk) d.known → IsOrderly S (seen_of d)
orderly S d h = record {
  clean = λ checked. (h.remembered checked).clean;
  checked = by d.known.checked refl;
  channel = λ c e. let m = h.remembered (by d.known.checked refl c e) in last-right (S.image d.disk) d.known.last c
      m.last_found m.spot e;
}
  where
    by : (b : Bool) → d.known.checked ≡ b → (c : Channel) → channel_of d.known.last ≡ Some c → d.known.checked ≡ true
    by true is c e = is
    by false is c e = absurd (none-some c (sym (ap channel_of (h.fresh is).0) ∙ e))

-- an answer of a drive that isn't dead
pub served : {D T E : Type 0} (S : History D) (old new : Seen D) (x : T) → old.dead ≡ false → new.dead ≡ false
    → S.failures new.disk ≡ S.failures old.disk
    → IsOrderly S new → Serves {E = E} S old new (Ok x)
served S old new x alive after same right = record {
  dead = λ e. absurd (apart alive e);
  failures = λ _. same;
  dies = (λ e. absurd (apart after e), λ h. absurd cc);
  orderly = λ _. right;
}
  where
    apart : {b : Bool} → b ≡ false → b ≡ true → ⊥
    apart f t = cc

-- the device failed in the call
pub died : {D T E : Type 0} (S : History D) (old new : Seen D) (r : Result T E) (Q : E → Type 0) → IsErrAnd r Q
    → old.dead ≡ false → new.dead ≡ true → Failed S old.disk new.disk → Serves S old new r
died S old new (Ok x) Q h _ _ _ = absurd h
died S old new (Err x) Q h alive after failed = record {
  dead = λ e. absurd (apart alive e);
  failures = λ _. failed;
  dies = (λ _. refl, λ _. after);
  orderly = λ f. absurd (apart f after);
}
  where
    apart : {b : Bool} → b ≡ false → b ≡ true → ⊥
    apart f t = cc

-- a dead drive stays as it is
pub still-dead : {D T E : Type 0} (S : History D) (d : Seen D) (x : E) → d.dead ≡ true → Serves {T = T} S d d (Err x)
still-dead S d x dead = record {
  dead = λ _. (refl, refl);
  failures = λ alive. absurd (apart alive dead);
  dies = (λ _. refl, λ _. dead);
  orderly = λ alive. absurd (apart alive dead);
}
  where
    apart : {b : Bool} → b ≡ false → b ≡ true → ⊥
    apart f t = cc

-- the file opened last is as it is remembered
pub found-last : (img : Image) (k : OpenFiles) (o : OpenFile) → IsKnown img k → k.last ≡ Some o → IsFound img o.found
found-last img k o known is = by k.checked refl
  where
    by : (b : Bool) → k.checked ≡ b → IsFound img o.found
    by true checked = subst (λ (last : Option OpenFile). IfSome last (λ o. IsFound img o.found)) is
        (known.remembered checked).last_found
    by false checked = absurd (none-some o (sym (known.fresh checked).0 ∙ is))

-- what is known stays so where the place in the file opened last is another one
pub known-moved : (img : Image) (k : OpenFiles) (o : OpenFile) (spot : Option Position) → k.last ≡ Some o → IsKnown img k
    → IfSome spot (IsSpot o.found)
    → IsKnown img (record {
      last = Some (record { found = o.found; spot = spot });
      before = k.before;
      checked = k.checked;
    })
known-moved img k o spot is known right = record {
  fresh = λ no. absurd (none-some o (sym (known.fresh no).0 ∙ is));
  remembered = λ checked. let m = known.remembered checked in record {
    clean = m.clean;
    last_found = subst (λ (last : Option OpenFile). IfSome last (λ o. IsFound img o.found)) is m.last_found;
    spot = right;
    before_found = m.before_found;
    apart = subst (λ (last : Option OpenFile). IfSome last
        (λ o. IfSome k.before (λ e. entry_of e.file ≢ entry_of o.found.file))) is m.apart;
  };
}

-- and so is the place in it
pub spot-of : (img : Image) (k : OpenFiles) (o : OpenFile) → IsKnown img k → k.last ≡ Some o
    → IfSome o.spot (IsSpot o.found)
spot-of img k o known is = by k.checked refl
  where
    by : (b : Bool) → k.checked ≡ b → IfSome o.spot (IsSpot o.found)
    by true checked = subst (λ (last : Option OpenFile). IfSome last (λ o. IfSome o.spot (IsSpot o.found))) is
        (known.remembered checked).spot
    by false checked = absurd (none-some o (sym (known.fresh checked).0 ∙ is))

pub spot-last : (img : Image) (k : OpenFiles) (o : OpenFile) (s : Position) → IsKnown img k → k.last ≡ Some o → o.spot ≡ Some s
    → IsSpot o.found s
spot-last img k o s known is at = subst (λ (spot : Option Position). IfSome spot (IsSpot o.found)) at
    (spot-of img k o known is)
