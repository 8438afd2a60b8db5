-- What an open log's file is, and what follows of a commit and of the mark.
use Rattle.std.proofs.Common.{◌≡◌, ◌⊎◌, ◌≤◌, ◌<◌, ◌+◌, ◌∙◌, ℕ, List, [], ◌∷◌, Bool, Err, Ok, OnOk, None, Option, Result, Some, ap, arith, false, get_or, inl, inr, ⊎_elim, length, nat_lt, replicate, slice_index, subst, sym, true, refl, not, ext_get_or}
use Rattle.std.proofs.lemmas.Bool.{eq-eqb, false≢true, le-ltb}
use Rattle.std.proofs.lemmas.List.{get_or-replicate, length-replicate}
use Rattle.std.proofs.lemmas.Option.{none-some}
use Rattle.d64_image.specs.Images.{Image}
use Rattle.image_log.specs.Blocks.{block_at, brought, committed, first_commit}
use Rattle.image_log.specs.Files.{BringsBytes, FileHistory, IsBlend, LeavesOnly, Mixed, Only, Rests, SeesOnly, overwritten}
use Rattle.image_log.specs.Logs.{StandsFor, is_closed}
use Rattle.image_log.specs.Recovered.{IsAppended, IsAtRest, IsLeft, IsLog, IsTorn, base_of, blank, is_marked, recovered, whole_blocks}
use Rattle.image_log.specs.Marks.{Covers, NoneTouched}
use Rattle.image_log.specs.declared.log.Log.{Log}
use Rattle.image_log.specs.declared.log_file.LogFile.{Ghosts}
use Rattle.image_log.proofs.Filled.{brought_all, length-replayed}
use Rattle.image_log.proofs.Marked.{is_there, mark_left}
use Rattle.image_log.proofs.Moments.{started, weaker}
use Rattle.image_log.proofs.Torn.{base_end_is, ends_clean}

module _ {F : Type 0} {G : Ghosts F} (l : Log F G) (start now : Image) (s : StandsFor l start now) where
  pub at_rest : Rests G.history l.file s.bytes
  at_rest = record { held = s.held; durable = (l.rest s.is_open).durable s.bytes s.held }

  pub is_log : IsLog s.bytes l.end
  is_log = (l.rest s.is_open).log s.bytes s.held

  pub based : 0 < first_commit (block_at s.bytes) l.end
  based = (l.rest s.is_open).based s.bytes s.held

module _ {F T E : Type 0} {G : Ghosts F} (l : Log F G) (new : F) (result : Result T E)
    (brings : (f : List ℕ) → Rests G.history l.file f → 4194304 + 1 ≤ length f
    → BringsBytes G.history l.file new 4194304 (1 ∷ []) f result) where
  module _ (start now : Image) (s : StandsFor l start now) where
    mark_brought : BringsBytes G.history l.file new 4194304 (1 ∷ []) s.bytes result
    mark_brought = brings s.bytes (at_rest l start now s) (omega (arith, (is_log l start now s).size))

    pub mark_moments : LeavesOnly G.history l.file new (IsLeft start now now)
    mark_moments = weaker G.history l.file new (Mixed 4194304 (1 ∷ []) s.bytes) (IsLeft start now now)
        (λ c mixed.
        subst (λ (x : Image). IsLeft start x x c) s.image
        (subst (λ (b : Image). IsLeft b (recovered s.bytes) (recovered s.bytes) c) s.base
        (mark_left s.bytes (is_log l start now s).size c mixed s.based s.ends)))
        mark_brought.any_moment

    marked_of : (r : Result T E) → OnOk r (Rests G.history new (overwritten s.bytes 4194304 (1 ∷ [])))
        → OnOk r ((c : List ℕ) → G.history.may_leave new c → is_marked c ≡ true)
    marked_of (Ok x) rests = λ c left. ap is_marked (rests.durable c left) ∙ is_there s.bytes (is_log l start now s).size
    marked_of (Err e) rests = tt

  all_of : (r : Result T E) → ((start now : Image) (s : StandsFor l start now)
      → OnOk r ((c : List ℕ) → G.history.may_leave new c → is_marked c ≡ true))
      → OnOk r ((start now : Image) → StandsFor l start now → (c : List ℕ) → G.history.may_leave new c → is_marked c ≡ true)
  all_of (Ok x) each = each
  all_of (Err e) each = tt

  pub marks : OnOk result ((start now : Image) → StandsFor l start now → (c : List ℕ) → G.history.may_leave new c → is_marked c ≡ true)
  marks = all_of result (λ start now s. marked_of start now s result (mark_brought start now s).ok)

the_some : {A : Type 0} (d : A) (o : Option A) → A
the_some d None = d
the_some d (Some x) = x

same_some : {A : Type 0} (x y : A) → Some x ≡ Some y → x ≡ y
unfolding the_some
same_some x y e = ap (the_some x) e

-- where no sector was touched nothing changes
module _ {F : Type 0} {G : Ghosts F} (l : Log F G) (now : Image) (touched : List Bool) (sized : length now ≡ 683)
    (none : NoneTouched touched) (start before : Image) (s : StandsFor l start before)
    (covers : Covers touched before now) where
  pub quiet : before ≡ now
  quiet =
      let long : length before ≡ 683 = ap length (sym s.image)
      ∙ length-replayed (block_at s.bytes) blank (committed (block_at s.bytes) (whole_blocks s.bytes))
      ∙ length-replicate 683 (replicate {A = ℕ} 256 0) in
      ext_get_or [] before now (long ∙ sym sized) (λ i low. covers i (omega (arith, low, long)) (none i))

  pub quiet_stands : StandsFor l start now
  quiet_stands = subst (StandsFor l start) quiet s

  left_as_it_is : IsLeft start before now s.bytes × (is_marked s.bytes ≡ false)
  left_as_it_is =
      let log = is_log l start before s in (
        record { size = log.size; based = s.based; base = s.base; image = inl s.image; ends = s.ends },
        ap not (eq-eqb (slice_index s.bytes 4194304) 0 (log.zeros 4194304 (omega (arith, log.within)))),
      )

  pub quiet_moments : LeavesOnly G.history l.file l.file (λ c. IsLeft start before now c × (is_marked c ≡ false))
  quiet_moments =
      started G.history l.file (λ c. IsLeft start before now c × (is_marked c ≡ false)) (λ c may.
      subst (λ (x : List ℕ). IsLeft start before now x × (is_marked x ≡ false)) (sym ((at_rest l start before s).durable c may))
      left_as_it_is)

  -- so does a read
  pub quiet_beside : SeesOnly G.history l.file l.file (λ c. IsLeft start before now c × (is_marked c ≡ false))
  quiet_beside f g c was is blend =
      let f_is : f ≡ s.bytes = same_some f s.bytes (sym was ∙ s.held) in
      let g_is : g ≡ s.bytes = same_some g s.bytes (sym is ∙ s.held) in
      let c_is : c ≡ s.bytes = ext_get_or 0 c s.bytes (blend.size ∙ ap length f_is)
      (λ i low. ⊎_elim (λ e. e ∙ ap (λ (x : List ℕ). slice_index x i) f_is) (λ e. e ∙ ap (λ (x : List ℕ). slice_index x i) g_is) (blend.each i)) in
      subst (λ (x : List ℕ). IsLeft start before now x × (is_marked x ≡ false)) (sym c_is) left_as_it_is

held_or_not : {A : Type 0} (o : Option A) → (o ≡ None) ⊎ ((x : A) × (o ≡ Some x))
held_or_not None = inl refl
held_or_not (Some x) = inr (x, refl)

-- a commit over an open log
module _ {F : Type 0} {G : Ghosts F} (l : Log F G) (now : Image) (touched : List Bool) (sized : length now ≡ 683) where
  made : (start before : Image) (s : StandsFor l start before) → Covers touched before now
      → brought touched now 683 (recovered s.bytes) ≡ now
  made start before s covers = brought_all touched now (recovered s.bytes)
      (length-replayed (block_at s.bytes) blank (committed (block_at s.bytes) (whole_blocks s.bytes))
      ∙ length-replicate 683 (replicate {A = ℕ} 256 0)) sized
      (subst (λ (i : Image). Covers touched i now) (sym s.image) covers)

  -- what a torn commit leaves
  torn_left : (start before : Image) (s : StandsFor l start before) → Covers touched before now → (c : List ℕ)
      → IsTorn s.bytes l.end (brought touched now 683 (recovered s.bytes)) c → IsLeft start before now c × (is_marked c ≡ false)
  torn_left start before s covers c torn =
      let f = s.bytes in (
        subst (λ (b : Image). IsLeft b before now c) s.base
            (subst (λ (i : Image). IsLeft (base_of f) i now c) s.image
            (subst (λ (i : Image). IsLeft (base_of f) (recovered f) i c) (made start before s covers) (torn.left (based l start before s)))),
        torn.unmarked,
      )

  pub commit_moments : (new : F) → ((f : List ℕ) → Rests G.history l.file f → IsLog f l.end
      → LeavesOnly G.history l.file new (IsTorn f l.end (brought touched now 683 (recovered f))))
      → (start before : Image) → StandsFor l start before → Covers touched before now
      → LeavesOnly G.history l.file new (λ c. IsLeft start before now c × (is_marked c ≡ false))
  commit_moments new moments start before s covers =
      let f = s.bytes in
      weaker G.history l.file new (IsTorn f l.end (brought touched now 683 (recovered f)))
      (λ c. IsLeft start before now c × (is_marked c ≡ false))
      (torn_left start before s covers)
      (moments f (at_rest l start before s) (is_log l start before s))

  pub commit_stands : (m : Log F G) (n : ℕ) → (is_closed m → ⊥) → ((f : List ℕ) → Rests G.history l.file f → IsLog f l.end
      → IsAppended G.history m.file f l.end n (brought touched now 683 (recovered f)))
      → (start before : Image) → StandsFor l start before → Covers touched before now → StandsFor m start now
  commit_stands m n opened appended start before s covers =
      let a = appended s.bytes (at_rest l start before s) (is_log l start before s) in
      record {
        is_open = opened;
        bytes = a.bytes;
        held = a.rests.held;
        durable = a.rests.durable;
        size = a.log.size;
        based = omega (arith, base_end_is a.bytes (l.end + n) a.log, a.based);
        base = a.base (based l start before s) ∙ s.base;
        image = a.image ∙ made start before s covers;
        ends = ends_clean a.bytes (l.end + n) a.log;
      }

  -- so does a read beside it
  pub commit_beside : (new : F) (n : ℕ) → ((f : List ℕ) → Rests G.history l.file f → IsLog f l.end
      → IsAppended G.history new f l.end n (brought touched now 683 (recovered f)))
      → (start before : Image) → StandsFor l start before → Covers touched before now
      → SeesOnly G.history l.file new (λ c. IsLeft start before now c × (is_marked c ≡ false))
  commit_beside new n appended start before s covers f g c was is blend =
      let a = appended s.bytes (at_rest l start before s) (is_log l start before s) in
      torn_left start before s covers c (a.beside c
      (subst (λ (x : List ℕ). IsBlend x a.bytes c) (same_some f s.bytes (sym was ∙ s.held))
      (subst (λ (x : List ℕ). IsBlend f x c) (same_some g a.bytes (sym is ∙ a.rests.held)) blend)))

-- what is known of the file after a commit was known before
module _ {F : Type 0} (h : FileHistory F) (old new : F) (end n : ℕ) (after : List ℕ → Image)
    (unknown : h.held old ≡ None → h.held new ≡ None)
    (known : (f : List ℕ) → h.held old ≡ Some f → IsAppended h new f end n (after f)) where
  rest_of : (g : List ℕ) → h.held new ≡ Some g → IsLog g (end + n) × (0 < first_commit (block_at g) (end + n)) × Only g (h.may_leave new)
  rest_of g held = elim (held_or_not (h.held old)) [
    | inl none ↦ absurd (none-some g (sym (unknown none) ∙ held))
    | inr some ↦
        let a = known some.0 some.1 in
        let is = same_some a.bytes g (sym a.rests.held ∙ held) in
        subst (λ (x : List ℕ). IsLog x (end + n) × (0 < first_commit (block_at x) (end + n)) × Only x (h.may_leave new)) is
        (a.log, a.based, a.rests.durable)
  ]

  pub rest_after : IsAtRest h new (end + n)
  rest_after = record {
    log = λ g held. (rest_of g held).0;
    based = λ g held. (rest_of g held).1;
    durable = λ g held. (rest_of g held).2;
  }

-- a new log takes a commit
pub few_left : (n : ℕ) → n ≤ 46 → nat_lt 1024 (n + 46) ≡ false
few_left n few = le-ltb 1024 (n + 46) (omega (arith, few))

-- every sector is touched
pub all_touched : (n i : ℕ) → i < n → get_or (replicate n true) i false ≡ true
all_touched n i low = get_or-replicate n i true false low

-- a log that begins: zeros, and then the image as the first commit
module _ {F : Type 0} {G : Ghosts F} (old mid new : F) (image : Image) (touched : List Bool) (n : ℕ) (sized : length image ≡ 683)
    (all : (i : ℕ) → i < 683 → get_or touched i false ≡ true)
    (empty : (f : List ℕ) → G.history.held old ≡ Some f → f ≡ [])
    (laid : G.history.held old ≡ Some [] → (f : List ℕ) × Rests G.history mid f × IsLog f 0)
    (unlaid : G.history.held old ≡ None → G.history.held mid ≡ None)
    (unknown : G.history.held mid ≡ None → G.history.held new ≡ None)
    (ok : (f : List ℕ) → Rests G.history mid f → IsLog f 0 → IsAppended G.history new f 0 n (brought touched image 683 (recovered f))) where
  known_mid : (f : List ℕ) → G.history.held mid ≡ Some f → IsAppended G.history new f 0 n (brought touched image 683 (recovered f))
  known_mid f held = elim (held_or_not (G.history.held old)) [
    | inl none ↦ absurd (none-some f (sym (unlaid none) ∙ held))
    | inr some ↦
        let there = laid (some.1 ∙ ap Some (empty some.0 some.1)) in
        let is = same_some there.0 f (sym there.1.held ∙ held) in
        ok f (subst (Rests G.history mid) is there.1) (subst (λ (x : List ℕ). IsLog x 0) is there.2)
  ]

  pub begun_rest : IsAtRest G.history new n
  begun_rest =
      let e : 0 + n ≡ n = omega arith in
      subst (IsAtRest G.history new) e
      (rest_after G.history mid new 0 n (λ (f : List ℕ). brought touched image 683 (recovered f)) unknown known_mid)

  pub begun_stands : (m : Log F G) → m.file ≡ new → (is_closed m → ⊥) → G.history.held old ≡ Some [] → StandsFor m image image
  begun_stands m is opened known =
      let there = laid known in
      let f = there.0 in
      let a = ok f there.1 there.2 in
      let all_of_it : brought touched image 683 (recovered f) ≡ image = brought_all touched image (recovered f)
      (length-replayed (block_at f) blank (committed (block_at f) (whole_blocks f)) ∙ length-replicate 683 (replicate {A = ℕ} 256 0)) sized
      (λ i low none. absurd (false≢true (sym none ∙ all i low))) in
      record {
        is_open = opened;
        bytes = a.bytes;
        held = ap G.history.held is ∙ a.rests.held;
        durable = subst (λ (x : F). Only a.bytes (G.history.may_leave x)) (sym is) a.rests.durable;
        size = a.log.size;
        based = omega (arith, base_end_is a.bytes (0 + n) a.log, a.based);
        base = a.first refl ∙ all_of_it;
        image = a.image ∙ all_of_it;
        ends = ends_clean a.bytes (0 + n) a.log;
      }
