-- An image that takes the place of another: a marked log is made, named, brought and taken away.
use Rattle.std.proofs.Common.{◌≡◌, ◌≤◌, ◌+◌, ◌-◌, ◌⊎◌, ◌∙◌, ◌<◌, ◌*◌, ℕ, List, Bool, [], ap, arith, false, get_or, inl, inr, length, refl, replicate, slice_index, subst, sym, take, ⊎_elim}
use Rattle.std.specs.List.{flat_map}
use Rattle.std.proofs.lemmas.List.{length-replicate}
use Rattle.std.proofs.lemmas.Option.{none-some, same_Some}
use Rattle.std.specs.Prelude.{Option, Result, Some}
use Rattle.d64_image.specs.Images.{Image}
use Rattle.image_log.specs.Blocks.{IsCommit, block_at, brought, committed, replayed}
use Rattle.image_log.specs.Files.{FileHistory, Only, overwritten}
use Rattle.image_log.specs.Marks.{Covers}
use Rattle.image_log.specs.Recovered.{IsAppended, IsLog, base_end, base_of, blank, recovered, whole_blocks}
use Rattle.image_log.specs.life.Bringing.{HasLog, IsBrought, IsLanding, IsWith, RestsAlone, RestsWith, marked_log}
use Rattle.image_log.specs.life.Folders.{Acts, AllLeft, Brings, Folder, FolderHistory, HasImage, HasNames, IsGivenUp, IsMaking, IsNaming, IsReturned, LeavesFolders, LeftOpen, being_made, named, with_image, with_log}
use Rattle.image_log.specs.life.Folders.Making.{Fresh, Missing}
use Rattle.image_log.specs.life.Mixes.{IsMixOf}
use Rattle.image_log.specs.life.Replacing.{IsCommitted, IsMade, IsMarkedFor, KeepsOrGives}
use Rattle.image_log.specs.life.Shops.{Gives, LogGives, given_by}
use Rattle.image_log.proofs.Appended.{appended}
use Rattle.image_log.proofs.Filled.{brought_all, length-replayed}
use Rattle.image_log.proofs.Runs.{committed_none}
use Rattle.image_log.proofs.Torn.{base_end_is, ends_clean}
use Rattle.image_log.proofs.lemmas.life.Made.{not_both}
use Rattle.image_log.proofs.lemmas.life.Marks.{marked_gives}
use Rattle.image_log.proofs.lemmas.life.Mixed.{none_written}
use Rattle.image_log.proofs.lemmas.life.Steps.{goes_on, joined, started, weaker}

pub is_long : (f : List ℕ) → length f ≡ 4198400 → 4194304 ≤ length f
is_long f size = omega (arith, size)

-- bytes, as a file of which all is known and which nothing happens to
abbrev still : FileHistory (List ℕ)
still = record {
  held = λ f. Some f;
  may_leave = λ f c. c ≡ f;
  moment = λ f. 0;
  left_since = λ f t c. c ≡ f;
  has_failed = λ f. false;
  only_now = λ f c is. is;
}

-- zeros are an empty log
pub empty_log : (f : List ℕ) → length f ≡ 4198400 → ((i : ℕ) → slice_index f i ≡ 0) → IsLog f 0
empty_log f size zeros = record {
  size = size;
  within = omega arith;
  whole = λ q low. absurd (omega (arith, low));
  ended = committed_none (block_at f);
  zeros = λ i from. zeros i;
}

-- The blocks of a commit that were made in the room, and joined.
pub record IsFilled (room : List (List ℕ)) (place n : ℕ) (now : Image) (touched : List Bool) (bytes : List ℕ) : Type 0 where
  pub commit : IsCommit (λ q. get_or room q []) place n
  pub few : n ≤ 46
  pub rooms : length room ≡ 46
  pub wide : (q : ℕ) → q < 46 → length (get_or room q []) ≡ 4096
  pub joined : bytes ≡ flat_map (λ b. b) (take n room)
  pub long : length bytes ≡ length (take n room) * 4096
  pub makes : (image : Image) → replayed (λ q. get_or room q []) image n ≡ brought touched now 683 image

-- A log's bytes: the commits end there, with this base and this image.
pub record IsLogOf (f : List ℕ) (end : ℕ) (start now : Image) : Type 0 where
  pub log : IsLog f end
  pub based : 0 < base_end f
  pub base : base_of f ≡ start
  pub image : recovered f ≡ now

-- a commit behind a log, or behind zeros
module _ (room : List (List ℕ)) (end n : ℕ) (now : Image) (touched : List Bool) (bytes f : List ℕ)
    (filled : IsFilled room end n now touched bytes) (fits : end + 46 ≤ 1024) (log : IsLog f end) (sized : length now ≡ 683)
    (covers : Covers touched (recovered f) now) where
  abbrev longer : List ℕ
  longer = overwritten f (4096 * end) bytes

  more : IsAppended still longer f end n (brought touched now 683 (recovered f))
  more = appended room n end filled.commit filled.few filled.rooms filled.wide fits bytes filled.joined filled.long still longer longer
      (brought touched now 683) filled.makes f log (record { held = refl; durable = λ c is. is })

  whole : brought touched now 683 (recovered f) ≡ now
  whole = brought_all touched now (recovered f)
      (length-replayed (block_at f) blank (committed (block_at f) (whole_blocks f)) ∙ length-replicate 683 (replicate {A = ℕ} 256 0))
      sized covers

  log_of : (base : Image) → base_of more.bytes ≡ base → IsLogOf longer (end + n) base now
  log_of base is = subst (λ (x : List ℕ). IsLogOf x (end + n) base now) (same_Some more.bytes longer (sym more.rests.held)) (record {
    log = more.log;
    based = omega (arith, base_end_is more.bytes (end + n) more.log, more.based);
    base = is;
    image = more.image ∙ whole;
  })

  pub first_log : end ≡ 0 → IsLogOf longer n now now
  first_log none =
      let all : end + n ≡ n = omega (arith, none) in
      subst (λ (k : ℕ). IsLogOf longer k now now) all (log_of now (more.first none ∙ whole))

  pub next_log : (base : Image) → 0 < base_end f → base_of f ≡ base → IsLogOf longer (end + n) base now
  next_log base based is = log_of base (more.base (omega (arith, based, base_end_is f end log)) ∙ is)

-- zeros, the blocks of the base and of the commit over them, and the mark
pub is_marked_for : {F : Type 0} (g : FileHistory F) (made : F) (f : List ℕ) (end : ℕ) (before after : Image)
    → IsLogOf f end before after → (g.held made ≡ Some (marked_log f)) × Only (marked_log f) (g.may_leave made)
    → IsMarkedFor g made before after
is_marked_for g made f end before after is put = record {
  bytes = marked_log f;
  held = put.0;
  durable = put.1;
  gives = λ image mix. marked_gives f before image after
      (record { size = is.log.size; based = is.based; own = inl (sym is.base); is = is.image; ends = ends_clean f end is.log })
      (subst (λ (b : Image). IsMixOf b after image) (sym is.base) mix);
}

-- the log gives the one after, beside each mix of the two
module _ (before after : Image) (f : List ℕ) (gives : (image : Image) → IsMixOf before after image → LogGives f image after) where
  log_gives : (s : Folder) → IsLanding f before after s → Gives s after
  log_gives s is = subst (λ (l : Option (List ℕ)). given_by l s.image after) (sym is.0) (gives s.image is.1)

module _ {D : Type 0} (h : FolderHistory D) where
  module _ (old a : D) (log : Option (List ℕ)) (before : Image) (rests : RestsWith h old log before) {T E : Type 0} (making : Result T E)
      (makes : Acts h old a being_made IsMaking making) where
    pub making_left : AllLeft h a (IsWith log before)
    making_left o may =
        let from = makes.outcomes o may in
        let alone = rests.left from.0 from.1 in
        (from.2.image ∙ alone.0, from.2.log ∙ alone.1)

    pub making_moments : LeavesFolders h old a (IsWith log before)
    making_moments = goes_on h old old a (IsWith log before) (started h old (IsWith log before) rests.left) makes.time making_left

    pub abandoned_moments : {F : Type 0} (g : FileHistory F) (b : D) (file : F) → IsGivenUp h a b (g.has_failed file)
        → LeavesFolders h old b (IsWith log before)
    abandoned_moments g b file up = goes_on h old a b (IsWith log before) making_moments up.time
        (λ o may. making_left o (up.outcomes o may))

    pub is_made : {F : Type 0} (g : FileHistory F) (file : F) (after : Image)
        → ((s : Folder) → h.held old ≡ Some s → h.held a ≡ Some (being_made s)) → IsMarkedFor g file before after
        → IsMade h g a file log before after
    is_made g file after keeps marked = record {
      some = being_made rests.some;
      held = keeps rests.some rests.held;
      image = rests.is.0;
      fresh = refl;
      left = making_left;
      marked = marked;
    }

  module _ {F : Type 0} (g : FileHistory F) (old : D) (file : F) (log : Option (List ℕ)) (before after : Image)
      (made : IsMade h g old file log before after)
      (a : D) {E : Type 0} (syncing : Result Unit E) (brings : Brings h old a HasNames syncing) where
    synced_left : AllLeft h a (IsWith log before)
    synced_left o may = made.left o (brings.outcomes o may)

    pub synced_moments : LeavesFolders h old a (KeepsOrGives log before after)
    synced_moments = weaker h old a (IsWith log before) (KeepsOrGives log before after) (λ s. inl)
        (goes_on h old old a (IsWith log before) (started h old (IsWith log before) made.left) brings.time synced_left)

    module _ (synced : (s : Folder) → h.held old ≡ Some s → AllLeft h a (HasNames s))
        (b : D) {T2 E2 : Type 0} (naming : Result T2 E2)
        (names : Acts h a b (named made.marked.bytes) (IsNaming made.marked.bytes) naming) where
      fresh : (o : Folder) → h.may_leave a o → o.making ≡ Fresh
      fresh o may = (synced made.some made.held o may).making ∙ made.fresh

      -- no sector of the new image was written yet
      begun : (o from : Folder) → h.may_leave a from → o.image ≡ from.image → HasLog made.marked.bytes o
          → IsLanding made.marked.bytes before after o
      begun o from may same has = (has, none_written before after o.image (same ∙ (synced_left from may).0))

      named_left : AllLeft h b (KeepsOrGives log before after)
      named_left o may =
          let from = names.outcomes o may in
          ⊎_elim
          (λ same. inl (subst (IsWith log before) (sym same) (synced_left from.0 from.1)))
          (λ done. inr (log_gives before after made.marked.bytes made.marked.gives o
          (begun o from.0 from.1 from.2.image (done.1 (fresh from.0 from.1)))))
          from.2.is

      pub naming_moments : LeavesFolders h old b (KeepsOrGives log before after)
      naming_moments = goes_on h old a b (KeepsOrGives log before after) synced_moments names.time named_left

      has_name : (o : Folder) → h.may_leave b o → o.making ≡ Missing → IsLanding made.marked.bytes before after o
      has_name o may missing =
          let from = names.outcomes o may in
          begun o from.0 from.1 from.2.image (⊎_elim
          (λ same. absurd (not_both o.making (ap (λ (x : Folder). x.making) same ∙ fresh from.0 from.1) missing))
          (λ done. done.1 (fresh from.0 from.1))
          from.2.is)

      module _ (c : D) {E3 : Type 0} (last : Result Unit E3) (keep : Brings h b c HasNames last) where
        pub lasting_moments : LeavesFolders h old c (KeepsOrGives log before after)
        lasting_moments = goes_on h old b c (KeepsOrGives log before after) naming_moments keep.time
            (λ o may. named_left o (keep.outcomes o may))

        module _ (renames : (s : Folder) → h.held a ≡ Some s → h.held b ≡ Some (named made.marked.bytes s))
            (lasts : (s : Folder) → h.held b ≡ Some s → AllLeft h c (HasNames s))
            (lent : h.lent b ≡ g.moment file)
            (new : D) {E4 : Type 0} (closing : Result Unit E4) (returned : IsReturned h g c new file closing) where
          there : h.held b ≡ Some (named made.marked.bytes made.some)
          there = renames made.some (brings.held ∙ made.held)

          -- once the names are synced, the log is there
          lasting : AllLeft h c (IsLanding made.marked.bytes before after)
          lasting o may = has_name o (keep.outcomes o may) (lasts (named made.marked.bytes made.some) there o may).making

          closed_has : (from o : Folder) (f : List ℕ) → h.may_leave c from → g.may_leave file f → o ≡ with_log f from
              → IsLanding made.marked.bytes before after o
          closed_has from o f may left is = (
            ap (λ (x : Folder). x.log) is ∙ ap Some (made.marked.durable f left),
            subst (λ (x : Folder). IsMixOf before after x.image) (sym is) (lasting from may).1,
          )

          pub closed_left : AllLeft h new (IsLanding made.marked.bytes before after)
          closed_left o may =
              let from = returned.outcomes o may in
              ⊎_elim
              (λ same. absurd (none-some made.marked.bytes (sym same.1 ∙ (lasting from.0 from.1).0)))
              (λ closed. closed_has from.0 o closed.0 from.1 closed.1 closed.2)
              from.2

          either_of : (o : Folder) → IsLanding made.marked.bytes before after o → KeepsOrGives log before after o
          either_of o is = inr (log_gives before after made.marked.bytes made.marked.gives o is)

          lent_last : (o : Folder) (t : ℕ) → t ≤ h.moment c → LeftOpen h g c file t (h.lent c + (t - (h.moment c + 1))) o
              → h.left_since c t o ⊎ KeepsOrGives log before after o
          lent_last o t le (inl was) = inl was.1
          lent_last o t le (inr then) =
              let here : h.lent c + (t - (h.moment c + 1)) ≡ g.moment file = omega (arith, le, keep.lent, lent) in
              inr (either_of o (closed_has then.0 o then.2 then.1
              (g.only_now file then.2 (subst (λ (k : ℕ). g.left_since file k then.2) here then.3)) then.4))

          while_closing : (t : ℕ) (o : Folder) → t ≤ h.moment c → h.left_since new t o
              → h.left_since c t o ⊎ KeepsOrGives log before after o
          while_closing t o le left = ⊎_elim (lent_last o t le) (λ may. inr (either_of o (closed_left o may)))
              (returned.since t o (omega (arith, le)) left)

          pub committed_moments : LeavesFolders h old new (KeepsOrGives log before after)
          committed_moments = record {
            later = omega (arith, lasting_moments.later, returned.later);
            each = λ o left. ⊎_elim (lasting_moments.each o) (λ gives. gives)
                (while_closing (h.moment old) o lasting_moments.later left);
            before = λ t o le left. ⊎_elim (lasting_moments.before t o le) (λ gives. inr gives)
                (while_closing t o (omega (arith, le, lasting_moments.later)) left);
          }

          pub is_committed : ((s : Folder) (f : List ℕ) → h.held c ≡ Some s → g.held file ≡ Some f → h.held new ≡ Some (with_log f s))
              → IsCommitted h new before after
          is_committed back = record {
            some = named made.marked.bytes made.some;
            held = back (named made.marked.bytes made.some) made.marked.bytes (keep.held ∙ there) made.marked.held;
            image = made.image;
            bytes = made.marked.bytes;
            left = closed_left;
            gives = made.marked.gives;
          }

  -- the four steps
  pub first_moments : (old a : D) (log : Option (List ℕ)) (before after : Image) → LeavesFolders h old a (IsWith log before)
      → LeavesFolders h old a (KeepsOrGives log before after)
  first_moments old a log before after making = weaker h old a (IsWith log before) (KeepsOrGives log before after)
      (λ s. inl) making

  module _ (old a b : D) (log : Option (List ℕ)) (before after : Image) (making : LeavesFolders h old a (IsWith log before))
      (committing : LeavesFolders h a b (KeepsOrGives log before after)) where
    pub second_moments : LeavesFolders h old b (KeepsOrGives log before after)
    second_moments = joined h old a b (KeepsOrGives log before after) (first_moments old a log before after making) committing

    module _ (there : IsCommitted h b before after) (c : D)
        (bringing : (f : List ℕ) (base : Image) → AllLeft h b (IsLanding f base after)
        → LeavesFolders h b c (IsLanding f base after)) where
      pub third_moments : LeavesFolders h old c (KeepsOrGives log before after)
      third_moments = joined h old b c (KeepsOrGives log before after) second_moments
          (weaker h b c (IsLanding there.bytes before after) (KeepsOrGives log before after)
          (λ o is. inr (log_gives before after there.bytes there.gives o is)) (bringing there.bytes before there.left))

      module _ (stays : (f : List ℕ) (base : Image) → AllLeft h b (IsLanding f base after)
          → AllLeft h c (IsLanding f base after))
          (ok : (s : Folder) → h.held b ≡ Some s → s.image ≡ before
          → (h.held c ≡ Some (with_image after s)) × AllLeft h c (HasImage (with_image after s))) where
        has_brought : AllLeft h c (IsBrought after)
        has_brought o may = (
          (ok there.some there.held there.image).1 o may,
          log_gives before after there.bytes there.gives o (stays there.bytes before there.left o may),
        )

        pub last_moments : (new : D)
            → ((x : Image) → AllLeft h c (IsBrought x) → LeavesFolders h c new (IsBrought x))
            → LeavesFolders h old new (KeepsOrGives log before after)
        last_moments new removing = joined h old c new (KeepsOrGives log before after) third_moments
            (weaker h c new (IsBrought after) (KeepsOrGives log before after)
            (λ o is. inr is.1) (removing after has_brought))

        pub last_rests : (new : D)
            → ((x : Image) (y : Folder) → h.held c ≡ Some y → y.image ≡ x → AllLeft h c (IsBrought x) → RestsAlone h new x)
            → RestsAlone h new after
        last_rests new alone = alone after (with_image after there.some) (ok there.some there.held there.image).0 refl has_brought
