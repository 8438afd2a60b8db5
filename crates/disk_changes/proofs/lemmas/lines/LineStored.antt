-- The record of one line stored, and its line printed where it was otherwise.
use Rattle.std.proofs.Common.{◌≡◌, ◌≢◌, ◌≤◌, ℕ, ◌*◌, List, [], ◌∷◌, ◌++◌, Option, Result, Ok, Err, Bool, inl, inr, refl, true, false, length}
use Rattle.std.proofs.Common.{subst, sym, ap, ◌∙◌, arith, eq-eqb, ne_eqb}
use Rattle.std.specs.Prelude.{IfErr, OnErr, OnOk, if◌then◌else◌, slice_index}
use Rattle.std.specs.Io.KnownBytes.{Appends}
use Rattle.std.proofs.KnownBytes.{Appends-nil}
use Rattle.std.proofs.lemmas.List.{append-nil}
use Rattle.d64_image.proofs.Moments.{at_end, changes_weaker}
use Rattle.d64_image.specs.History.{Changes, History}
use Rattle.disk_layout.specs.Layout.{File, Layout, record_length}
use Rattle.disk_layout.specs.Records.{records}
use Rattle.line_text.proofs.lemmas.bytes.Stored.{one-line}
use Rattle.line_text.specs.bytes.Lines.{IsLineOf}
use Rattle.line_text.specs.bytes.Texts.{record_line}
use Rattle.rel_records.proofs.lemmas.Kept.{leaves_has}
use Rattle.rel_records.specs.declared.rel_file.RelFile.{RelFile}
use Rattle.command_faults.specs.Outputs.{HandsPart}
use Rattle.disk_changes.specs.mended.Repairs.{TellsKeep}
use Rattle.disk_changes.specs.lines.Stores.{CanStore, NewRecord, changed_text, if_last, is_changed, new_record}
use Rattle.disk_changes.specs.lines.Storing.{IsStoringOver, StoresLines, StoresOne}
use Rattle.command_faults.specs.declared.faults.CommandFault.{CommandFault}
use Rattle.command_faults.specs.declared.faults.CommandFault.TheVariants as faults

-- a line is of one record
pub line-record : {Last : Type 0} (line bytes : List ℕ) (n L h : ℕ) (x : NewRecord)
    → (1 ≤ n) × (n ≤ 182880) × IsLineOf line n bytes × Last
    → IsLineOf line x.number x.bytes → CanStore L h x → new_record n bytes ≡ x
line-record line bytes n L h x found is can =
    let same = one-line line n x.number bytes x.bytes found.0 found.1 can.low can.high found.2 is in
    λ i. record { number = same.0 i; bytes = same.1 i }

-- it is the last one of its record, or isn't
pub if-last : (table : List ℕ) (place : ℕ) (x : NewRecord) → slice_index table x.number ≡ place
    → x ∷ [] ≡ if_last table place x
if-last table place x same =
    sym (ap (λ (b : Bool). if b then x ∷ [] else []) (eq-eqb (slice_index table x.number) place same))

pub if-not_last : (table : List ℕ) (place : ℕ) (x : NewRecord) → slice_index table x.number ≢ place
    → [] ≡ if_last table place x
if-not_last table place x other =
    sym (ap (λ (b : Bool). if b then x ∷ [] else []) (ne_eqb (slice_index table x.number) place other))

-- what is printed of one record
one-same : (L : ℕ) (x : NewRecord) (rs : List (List ℕ)) → false ≡ is_changed L x rs → [] ≡ changed_text L (x ∷ []) rs
one-same L x rs is = ap (λ (t : Bool). (if t then record_line x.number x.bytes else []) ++ []) is

one-line_text : (L : ℕ) (x : NewRecord) (rs : List (List ℕ)) → true ≡ is_changed L x rs
    → record_line x.number x.bytes ≡ changed_text L (x ∷ []) rs
one-line_text L x rs is =
    sym (append-nil (record_line x.number x.bytes))
    ∙ ap (λ (t : Bool). (if t then record_line x.number x.bytes else []) ++ []) is

device-no-file : (fault : CommandFault) → fault ≡ faults.Device → fault ≡ faults.File → ⊥
device-no-file fault is other = cc

module _ {D W : Type 0} (S : History D) (contents : W → Option (List ℕ)) (a d : D) (o p : W) (l : Layout) (n : ℕ)
    (f : File)
    (v w : RelFile) (x : NewRecord) where
  moments-one : Changes S a d 2 (IsStoringOver (S.image a) l n (record_length f.slot) (x ∷ []) (records (S.image a) f))
      → Changes S a d (2 * length (x ∷ [])) (IsStoringOver (S.image a) l n (record_length f.slot) (x ∷ [])
      (records (S.image a) f))
  moments-one m = changes_weaker S a d 2 (2 * length (x ∷ [])) _ _ (omega arith) (λ i h. h) m

  -- the device failed
  pub line-failed : (fault : CommandFault) → StoresOne S a d l n f v w x (Err fault)
      → StoresLines S contents a d o o l n f v w (x ∷ []) (Err fault)
  line-failed fault one = record {
    ok = tt;
    moments = moments-one one.moments;
    whole = one.whole;
    quiet = λ so. one.quiet so.0;
    clean = λ e. absurd (device-no-file fault one.err e);
    stopped = record {
      front = [];
      one = x;
      back = [];
      split = refl;
      printed = [];
      appends = Appends-nil (contents o);
      stopped = inr (one.err, at_end S a d _ one.moments.held, refl);
    };
    told = subst (λ (e : CommandFault). TellsKeep {T = Unit {0}} S a d (Err e)) (sym one.err)
        (subst (λ (e : CommandFault). TellsKeep {T = Bool} S a d (Err e)) one.err one.told);
  }

  -- it was so already
  pub line-same : StoresOne S a d l n f v w x (Ok false) → StoresLines S contents a d o o l n f v w (x ∷ []) (Ok tt)
  line-same one = record {
    ok = (
      one.ok.0,
      one.ok.1,
      subst (Appends (contents o) (contents o))
          (one-same (record_length f.slot) x (records (S.image a) f) one.ok.2) (Appends-nil (contents o)),
    );
    moments = moments-one one.moments;
    whole = one.whole;
    quiet = λ so. one.quiet so.0;
    clean = tt;
    stopped = tt;
    told = one.told;
  }

  -- it was stored, and its line printed
  line-printed : StoresOne S a d l n f v w x (Ok true)
      → Appends (contents o) (contents p) (record_line x.number x.bytes)
      → StoresLines S contents a d o p l n f v w (x ∷ []) (Ok tt)
  line-printed one printed = record {
    ok = (
      one.ok.0,
      one.ok.1,
      subst (Appends (contents o) (contents p))
          (one-line_text (record_length f.slot) x (records (S.image a) f) one.ok.2) printed,
    );
    moments = moments-one one.moments;
    whole = one.whole;
    quiet = λ so. one.quiet so.0;
    clean = tt;
    stopped = tt;
    told = one.told;
  }

  -- it was stored, and the output failed
  line-unprinted : StoresOne S a d l n f v w x (Ok true)
      → HandsPart (contents o) (contents p) (record_line x.number x.bytes)
      → StoresLines S contents a d o p l n f v w (x ∷ []) (Err faults.File)
  line-unprinted one (printed, rest, appends, is) = record {
    ok = tt;
    moments = moments-one one.moments;
    whole = one.whole;
    quiet = λ so. one.quiet so.0;
    clean = λ e. (one.ok.0.layout, one.ok.0.clean);
    stopped = record {
      front = [];
      one = x;
      back = [];
      split = refl;
      printed = printed;
      appends = appends;
      stopped = inl (refl, sym one.ok.2, leaves_has (S.image a) (S.image d) l n _ w one.ok.0, (rest, is));
    };
    told = one.told;
  }

  -- it was stored, and its line printed, all of it or a part
  pub line-ended : StoresOne S a d l n f v w x (Ok true) → (r : Result (Unit {0}) CommandFault)
      → OnOk r (Appends (contents o) (contents p) (record_line x.number x.bytes))
      → OnErr r (HandsPart (contents o) (contents p) (record_line x.number x.bytes))
      → IfErr r (λ fault. fault ≡ faults.File)
      → StoresLines S contents a d o p l n f v w (x ∷ []) r
  line-ended one (Ok t) printed part told = line-printed one printed
  line-ended one (Err fault) printed part told =
      subst (λ (e : CommandFault). StoresLines S contents a d o p l n f v w (x ∷ []) (Err e)) (sym told)
      (line-unprinted one part)
