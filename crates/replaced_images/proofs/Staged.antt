-- What each call makes of a stage.
use Rattle.std.proofs.Common.{◌≡◌, ℕ, ◌≤◌, ◌+◌, ◌==◌, Bool, true, false, List, [], ◌++◌, length, if◌then◌else◌, refl, sym, ◌∙◌, ap, subst, arith}
use Rattle.std.specs.Prelude.{bytes_eq, drop, replicate, ◌-◌}
use Rattle.std.proofs.lemmas.Bool.{eq-eqb, eqb-true}
use Rattle.std.proofs.lemmas.List.{append-nil, drop_all}
use Rattle.one_host.specs.Worlds.{IsMix, Kept, Left, MayLeave, OneOf, World}
use Rattle.one_host.specs.Calls.{IsMade, IsRemoved, IsRenamed, are_one, brought, doubted, entry, folder_of, folder_synced, folder_unsynced, moved, put, turned, unsynced, with_bytes}
use Rattle.one_host.specs.declared.parts.Entry.{Entry}
use Rattle.one_host.specs.declared.parts.Entry.TheVariants.{Leads, Nothing}
use Rattle.one_host.specs.declared.parts.Handle.{Handle}
use Rattle.one_host.specs.declared.parts.Kind.TheVariants.{Regular}
use Rattle.replaced_images.specs.Replaced.{Rests, log_of, making_of, whole}
use Rattle.replaced_images.specs.Stages.{Has, Makes}
use Rattle.replaced_images.proofs.Paths.{log_not_making, not_log, not_making, one_folder, same_bytes}

if_so : {A : Type 0} (b : Bool) (x y : A) → b ≡ true → (if b then x else y) ≡ x
if_so b x y is = ap (λ c. if c then x else y) is

if_not : {A : Type 0} (b : Bool) (x y : A) → b ≡ false → (if b then x else y) ≡ y
if_not b x y is = ap (λ c. if c then x else y) is

apart : (i n : ℕ) → (i ≡ n → ⊥) → (i == n) ≡ false
apart i n not = by_bool (i == n) refl
  where
    by_bool : (b : Bool) → (i == n) ≡ b → (i == n) ≡ false
    by_bool true is = absurd (not (eqb-true i n is))
    by_bool false is = is

module _ (path : List ℕ) (i l : ℕ) (image log : Kept (List ℕ)) (name : Kept Entry) (w : World) where
  pub log_becomes : (F : Kept (List ℕ) → Kept (List ℕ)) → Has path i l image log name w
      → Has path i l image (F log) name (with_bytes w l (F (w.files l).bytes))
  log_becomes F h = record {
    led = h.led;
    image = ap (λ f. f.bytes) (if_not (i == l) _ (w.files i) h.apart) ∙ h.image;
    log = ap (λ f. f.bytes) (if_so (l == l) _ (w.files l) (eq-eqb l l refl)) ∙ ap F h.log;
    name = h.name;
    apart = h.apart;
    other = h.other;
  }

  pub image_becomes : (F : Kept (List ℕ) → Kept (List ℕ)) → Has path i l image log name w
      → Has path i l (F image) log name (with_bytes w i (F (w.files i).bytes))
  image_becomes F h = record {
    led = h.led;
    image = ap (λ f. f.bytes) (if_so (i == i) _ (w.files i) (eq-eqb i i refl)) ∙ ap F h.image;
    log = ap (λ f. f.bytes) (if_not (l == i) _ (w.files l) h.other) ∙ h.log;
    name = h.name;
    apart = h.apart;
    other = h.other;
  }

  pub folder_settles : Has path i l image log name w → Has path i l image log (brought name) (folder_synced w path)
  folder_settles h = record {
    led = if_so (bytes_eq (folder_of path) (folder_of path)) (brought (w.names path)) (w.names path) (same_bytes (folder_of path)) ∙ ap brought h.led;
    image = h.image;
    log = h.log;
    name = if_so (bytes_eq (folder_of (log_of path)) (folder_of path)) (brought (w.names (log_of path))) (w.names (log_of path)) (one_folder path) ∙ ap brought h.name;
    apart = h.apart;
    other = h.other;
  }

  pub unnames : Has path i l image log name w → (v : World) → IsRemoved (log_of path) (tt {0}) w v → Has path i l image log (turned name Nothing) v
  unnames h v is = subst (Has path i l image log (turned name Nothing)) (sym is.1) (record {
    led = if_not (bytes_eq path (log_of path)) _ (w.names path) (not_log path) ∙ h.led;
    image = h.image;
    log = h.log;
    name = if_so (bytes_eq (log_of path) (log_of path)) _ (w.names (log_of path)) (same_bytes (log_of path)) ∙ ap (λ k. turned k Nothing) h.name;
    apart = h.apart;
    other = h.other;
  })

-- the file of a log in the making is changed, and the folder is synced
module _ (path : List ℕ) (i l : ℕ) (image log : Kept (List ℕ)) (name : Kept Entry) (w : World) where
  pub making_becomes : (F : Kept (List ℕ) → Kept (List ℕ)) → Makes path i l image log name w
      → Makes path i l image (F log) name (with_bytes w l (F (w.files l).bytes))
  making_becomes F m = record { has = log_becomes path i l image log name w F m.has; making = m.making }

  pub making_settles : Makes path i l image log name w → Makes path i l image log (brought name) (folder_synced w path)
  making_settles m = record {
    has = folder_settles path i l image log name w m.has;
    making = shown (bytes_eq (folder_of (making_of path)) (folder_of path)) (w.names (making_of path)).in_doubt ∙ m.making;
  }
    where
      shown : (b d : Bool) → (if b then (if d then w.names (making_of path) else record { now = (w.names (making_of path)).now; before = []; in_doubt = (w.names (making_of path)).in_doubt }) else w.names (making_of path)).now ≡ (w.names (making_of path)).now
      shown true true = refl
      shown true false = refl
      shown false d = refl

-- a log in the making gets the name
pub names_log : (path : List ℕ) (i l : ℕ) (image log : Kept (List ℕ)) (w : World) → Makes path i l image log (whole Nothing) w
    → (v : World) → IsRenamed (making_of path) (log_of path) (tt {0}) w v → Has path i l image log (turned (whole Nothing) (Leads l)) v
names_log path i l image log w m v is =
    let h = m.has in
    let from : entry w (making_of path) ≡ Leads l = m.making in
    let to : entry w (log_of path) ≡ Nothing = ap (λ (k : Kept Entry). k.now) h.name in
    let two : are_one (entry w (making_of path)) (entry w (log_of path)) ≡ false = ap (λ e. are_one e (entry w (log_of path))) from ∙ ap (are_one (Leads l)) to in
    let is_moved : v ≡ moved w (making_of path) (log_of path) = is.1 ∙ if_not _ w (moved w (making_of path) (log_of path)) two in
    subst (Has path i l image log (turned (whole Nothing) (Leads l))) (sym is_moved) (record {
      led = if_not (bytes_eq path (making_of path)) _ _ (not_making path) ∙ if_not (bytes_eq path (log_of path)) _ (w.names path) (not_log path) ∙ h.led;
      image = h.image;
      log = h.log;
      name = if_not (bytes_eq (log_of path) (making_of path)) _ _ (log_not_making path)
          ∙ if_so (bytes_eq (log_of path) (log_of path)) _ (w.names (log_of path)) (same_bytes (log_of path))
          ∙ ap (λ k. turned k (entry w (making_of path))) h.name ∙ ap (turned (whole Nothing)) from;
      apart = h.apart;
      other = h.other;
    })

-- a log in the making is begun
pub begins : (path : List ℕ) (i : ℕ) (old : List ℕ) (w : World) → Rests path i old w → (h : Handle) (v : World)
    → IsMade (making_of path) Regular h w v → Makes path i h.number (whole old) (whole []) (whole Nothing) v
begins path i old w r h v is = subst (λ l. Makes path i l (whole old) (whole []) (whole Nothing) v) (sym is.1)
    (subst (Makes path i w.used (whole old) (whole []) (whole Nothing)) (sym is.2.1) (record {
      has = record {
        led = if_not (bytes_eq path (making_of path)) _ (w.names path) (not_making path) ∙ r.led;
        image = ap (λ f. f.bytes) (if_not (i == w.used) _ (w.files i) i_old) ∙ r.image;
        log = ap (λ f. f.bytes) (if_so (w.used == w.used) _ (w.files w.used) (eq-eqb w.used w.used refl));
        name = if_not (bytes_eq (log_of path) (making_of path)) _ (w.names (log_of path)) (log_not_making path) ∙ r.name;
        apart = i_old;
        other = apart w.used i (λ e. omega (arith, r.used, e));
      };
      making = ap (λ (k : Kept Entry). k.now) (if_so (bytes_eq (making_of path) (making_of path)) (turned (w.names (making_of path)) (Leads w.used)) (w.names (making_of path)) (same_bytes (making_of path)));
    }))
  where
    i_old : (i == w.used) ≡ false
    i_old = apart i w.used (λ e. omega (arith, r.used, e))

-- **A sync that fails leaves what could be left before.**

pub unsynced_leaves : (w : World) (n : ℕ) (left : Left) → MayLeave (unsynced w n) left → MayLeave w left
unsynced_leaves w n left may = record {
  bytes = λ m. by_bool m (m == n) refl (may.bytes m);
  names = may.names;
}
  where
    by_bool : (m : ℕ) (b : Bool) → (m == n) ≡ b → IsMix (if b then record (w.files n) { bytes = doubted (w.files n).bytes } else w.files m).bytes.now
        (if b then record (w.files n) { bytes = doubted (w.files n).bytes } else w.files m).bytes.before (left.bytes m)
        → IsMix (w.files m).bytes.now (w.files m).bytes.before (left.bytes m)
    by_bool m true is mix = subst (λ k. IsMix (w.files k).bytes.now (w.files k).bytes.before (left.bytes m)) (sym (eqb-true m n is)) mix
    by_bool m false is mix = mix

pub folder_unsynced_leaves : (w : World) (path : List ℕ) (left : Left) → MayLeave (folder_unsynced w path) left → MayLeave w left
folder_unsynced_leaves w path left may = record {
  bytes = may.bytes;
  names = λ p. by_bool p (bytes_eq (folder_of p) (folder_of path)) (may.names p);
}
  where
    by_bool : (p : List ℕ) (b : Bool) → OneOf (λ was. left.names p ≡ was) (if b then doubted (w.names p) else w.names p).now
        (if b then doubted (w.names p) else w.names p).before → OneOf (λ was. left.names p ≡ was) (w.names p).now (w.names p).before
    by_bool p true o = o
    by_bool p false o = o

-- what is put over as many bytes is there alone
pub put_over : (old new : List ℕ) → length old ≤ length new → put old 0 new ≡ new
put_over old new le =
    let none : 0 - length old ≡ 0 = omega arith in
    ap (λ n. replicate n 0 ++ new ++ drop (0 + length new) old) none
    ∙ ap (λ (l : List ℕ). new ++ l) (drop_all (0 + length new) old (omega (arith, le))) ∙ append-nil new
