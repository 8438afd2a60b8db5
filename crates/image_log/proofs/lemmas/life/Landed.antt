-- A folder that is settled and read, and a log that is landed.
use Rattle.std.proofs.Common.{◌≡◌, ◌∙◌, ℕ, Bool, List, refl, subst, sym}
use Rattle.std.specs.Prelude.{Contains, Err, IfErr, IfOk, None, Ok, OnOk, Option, Result, Some}
use Rattle.d64_image.specs.Images.{Image}
use Rattle.image_log.specs.Recovered.{base_of}
use Rattle.image_log.specs.life.Bringing.{IsBrought, IsFound, IsLanding, IsMarkedIn, IsSettledAs, RestsAlone, marked_log}
use Rattle.image_log.specs.life.Folders.{Acts, AllLeft, Brings, Folder, FolderHistory, HasImage, HasNames, IsGivenUp, LeavesFolders, Same, with_image, with_log}
use Rattle.image_log.specs.life.Mixes.{IsMixOf}
use Rattle.image_log.specs.life.Shops.{Gives, GivesOneOf, LogGives, given_by}
use Rattle.image_log.proofs.lemmas.life.Mixed.{mix_gives}
use Rattle.image_log.proofs.lemmas.life.Marks.{gives_log, marked_gives}
use Rattle.image_log.proofs.lemmas.life.Steps.{goes_on, joined, started, weaker}

module _ {D : Type 0} (h : FolderHistory D) where
  pub settled : {E : Type 0} (old mid new : D) → h.held mid ≡ h.held old
      → ((s : Folder) → h.held old ≡ Some s → AllLeft h mid (HasImage s))
      → (r : Result Unit E) → Brings h mid new HasNames r
      → OnOk r ((s : Folder) → h.held old ≡ Some s → AllLeft h new (IsSettledAs s))
  settled old mid new same image (Ok x) brings = λ s held o may.
      (image s held o (brings.outcomes o may), brings.ok s (same ∙ held) o may)
  settled old mid new same image (Err e) brings = tt

  module _ {V E1 E2 : Type 0} (old a b new : D) (now : Image) (same : h.held a ≡ h.held old)
      (outcomes : (s : Folder) → h.may_leave a s → h.may_leave old s)
      (synced : (s : Folder) → h.held old ≡ Some s → AllLeft h a (IsSettledAs s))
      (reading : Result Unit E1) (reads : Acts h a b (λ (x : Folder). x) Same reading)
      (image : (s : Folder) → h.held a ≡ Some s → now ≡ s.image)
      (keeps : (s : Folder) → h.held a ≡ Some s → h.held b ≡ Some s)
      (P : V → Folder → Type 0) where
    pub found_read : (result : Result V E2)
        → IfOk result (λ log. (s : Folder) → h.held b ≡ Some s → P log s)
        → Acts h b new (λ (x : Folder). x) Same result
        → IfOk result (λ log. (s : Folder) → h.held old ≡ Some s → (h.held new ≡ Some s) × (now ≡ s.image) × P log s)
    found_read (Ok log) is acts = λ s held.
        (acts.ok s (keeps s (same ∙ held)), image s (same ∙ held), is s (keeps s (same ∙ held)))
    found_read (Err e) is acts = tt

    pub found_settled : (result : Result V E2) → Acts h b new (λ (x : Folder). x) Same result
        → OnOk result ((s : Folder) → h.held old ≡ Some s → AllLeft h new (IsSettledAs s))
    found_settled (Ok log) acts = λ s held o may.
        let y = acts.outcomes o may in
        let x = reads.outcomes y.0 y.1 in
        synced s held o (subst (h.may_leave a) (sym (y.2 ∙ x.2)) x.1)
    found_settled (Err e) acts = tt

  -- the log is marked, and gives the shop beside each mix of its base and that
  module _ (old a : D) (shops : List Image) (s : Folder) (f : List ℕ) (shop : Image) (there : IsFound h old shops s)
      (log : s.log ≡ Some f) (gives : LogGives f s.image shop)
      (marking : LeavesFolders h old a (GivesOneOf shops))
      (marked : (h.held a ≡ Some (with_log (marked_log f) s)) × AllLeft h a (IsMarkedIn f s)) where
    contained : Contains shops shop
    contained = subst (Contains shops) (sym (gives_log s f there.gives.0 log there.gives.2).is ∙ gives.is) there.gives.1

    abbrev Lands : Folder → Type 0
    Lands = IsLanding (marked_log f) (base_of f) shop

    marked_lands : AllLeft h a Lands
    marked_lands o may =
        let is = marked.1 o may in
        (is.0, subst (IsMixOf (base_of f) shop) (sym is.1) (mix_gives f s.image shop gives))

    gives_shop : (o : Folder) → Lands o → Gives o shop
    gives_shop o is = subst (λ (l : Option (List ℕ)). given_by l o.image shop) (sym is.0)
        (marked_gives f s.image o.image shop gives is.1)

    one_of : (o : Folder) → Gives o shop → GivesOneOf shops o
    one_of o is = (shop, contained, is)

    module _ (b : D) (moments : (log : List ℕ) (base : Image) → AllLeft h a (IsLanding log base shop)
        → LeavesFolders h a b (IsLanding log base shop)) where
      pub bring_landed : LeavesFolders h old b (GivesOneOf shops)
      bring_landed = joined h old a b (GivesOneOf shops) marking
          (weaker h a b Lands (GivesOneOf shops) (λ o is. one_of o (gives_shop o is))
          (moments (marked_log f) (base_of f) marked_lands))

      module _ (now : Image) (is_now : now ≡ s.image)
          (stays : (log : List ℕ) (base : Image) → AllLeft h a (IsLanding log base shop) → AllLeft h b (IsLanding log base shop))
          (ok : (x : Folder) → h.held a ≡ Some x → x.image ≡ now
          → (h.held b ≡ Some (with_image shop x)) × AllLeft h b (HasImage (with_image shop x))) where
        pub whole : (h.held b ≡ Some (with_image shop (with_log (marked_log f) s)))
            × AllLeft h b (HasImage (with_image shop (with_log (marked_log f) s)))
        whole = ok (with_log (marked_log f) s) marked.0 (sym is_now)

        pub brought : AllLeft h b (IsBrought shop)
        brought o may = (whole.1 o may, gives_shop o (stays (marked_log f) (base_of f) marked_lands o may))

        pub landed : (new : D) → ((x : Image) → AllLeft h b (IsBrought x) → LeavesFolders h b new (IsBrought x))
            → LeavesFolders h old new (GivesOneOf shops)
        landed new removing = joined h old b new (GivesOneOf shops) bring_landed
            (weaker h b new (IsBrought shop) (GivesOneOf shops) (λ o is. one_of o is.1) (removing shop brought))

        pub rests : (new : D) → ((x : Image) (y : Folder) → h.held b ≡ Some y → y.image ≡ x → AllLeft h b (IsBrought x)
            → RestsAlone h new x) → RestsAlone h new shop
        rests new alone = alone shop (with_image shop (with_log (marked_log f) s)) whole.0 refl brought

  pub land_ok : {E : Type 0} (old a b new : D) (now shop : Image)
      → ((shops : List Image) (s : Folder) (f : List ℕ) → IsFound h old shops s → s.log ≡ Some f
      → LeavesFolders h old a (GivesOneOf shops))
      → ((shops : List Image) (s : Folder) (f : List ℕ) → IsFound h old shops s → s.log ≡ Some f
      → (h.held a ≡ Some (with_log (marked_log f) s)) × AllLeft h a (IsMarkedIn f s))
      → ((log : List ℕ) (base : Image) → AllLeft h a (IsLanding log base shop) → LeavesFolders h a b (IsLanding log base shop))
      → ((log : List ℕ) (base : Image) → AllLeft h a (IsLanding log base shop) → AllLeft h b (IsLanding log base shop))
      → ((x : Folder) → h.held a ≡ Some x → x.image ≡ now
      → (h.held b ≡ Some (with_image shop x)) × AllLeft h b (HasImage (with_image shop x)))
      → (r : Result Unit E)
      → OnOk r ((x : Image) (y : Folder) → h.held b ≡ Some y → y.image ≡ x → AllLeft h b (IsBrought x) → RestsAlone h new x)
      → OnOk r ((shops : List Image) (s : Folder) (f : List ℕ) → IsFound h old shops s → s.log ≡ Some f → now ≡ s.image
      → LogGives f s.image shop → RestsAlone h new shop)
  land_ok old a b new now shop marking marked moments stays ok (Ok x) alone = λ shops s f there log is gives.
      rests old a shops s f shop there log gives (marking shops s f there log) (marked shops s f there log) b moments now is
      stays ok new alone
  land_ok old a b new now shop marking marked moments stays ok (Err e) alone = tt

  -- IMAGE is read again, which changes nothing
  module _ {T E : Type 0} (old new : D) (r : Result T E) (reads : Acts h old new (λ (x : Folder). x) Same r) (shops : List Image)
      (s : Folder) (there : IsFound h old shops s) where
    read_left : AllLeft h new (GivesOneOf shops)
    read_left o may = let x = reads.outcomes o may in subst (GivesOneOf shops) (sym x.2) (there.left x.0 x.1)

    pub read_moments : LeavesFolders h old new (GivesOneOf shops)
    read_moments = goes_on h old old new (GivesOneOf shops) (started h old (GivesOneOf shops) there.left) reads.time read_left

    pub read_found : h.held new ≡ Some s → IsFound h new shops s
    read_found held = record {
      held = held;
      gives = there.gives;
      left = read_left;
      settled = λ o may. let x = reads.outcomes o may in subst (IsSettledAs s) (sym x.2) (there.settled x.0 x.1);
    }

  -- a log that was read is closed
  module _ (old mid : D) (has_failed : Bool) (up : IsGivenUp h old mid has_failed) (shops : List Image) (s : Folder)
      (there : IsFound h old shops s) where
    pub left_found : IsFound h mid shops s
    left_found = record {
      held = up.held ∙ there.held;
      gives = there.gives;
      left = λ o may. there.left o (up.outcomes o may);
      settled = λ o may. there.settled o (up.outcomes o may);
    }

    pub left_moments : LeavesFolders h old mid (GivesOneOf shops)
    left_moments = goes_on h old old mid (GivesOneOf shops) (started h old (GivesOneOf shops) there.left) up.time left_found.left

  -- the folder was read, and it has a log
  module _ (old mid : D) (now : Image) (known : Option (List ℕ))
      (finding : LeavesFolders h old mid (h.may_leave old))
      (outcomes : (s : Folder) → h.may_leave mid s → h.may_leave old s)
      (read : (s : Folder) → h.held old ≡ Some s → (h.held mid ≡ Some s) × (now ≡ s.image))
      (opened : (s : Folder) → h.held old ≡ Some s → (f : List ℕ) × (s.log ≡ Some f) × (known ≡ Some f))
      (settles : (s : Folder) → h.held old ≡ Some s → AllLeft h mid (IsSettledAs s)) where
    there_is : (shops : List Image) (s : Folder) → h.held old ≡ Some s → GivesOneOf shops s → AllLeft h old (GivesOneOf shops)
        → IsFound h mid shops s
    there_is shops s held gives all = record {
      held = (read s held).0;
      gives = gives;
      left = λ o may. all o (outcomes o may);
      settled = settles s held;
    }

    pub some_moments : (new : D)
        → ((shops : List Image) (s : Folder) (f : List ℕ) → IsFound h mid shops s → known ≡ Some f → s.log ≡ Some f
        → now ≡ s.image → LeavesFolders h mid new (GivesOneOf shops))
        → (shops : List Image) (s : Folder) → h.held old ≡ Some s → GivesOneOf shops s → AllLeft h old (GivesOneOf shops)
        → LeavesFolders h old new (GivesOneOf shops)
    some_moments new landing shops s held gives all =
        let log = opened s held in
        joined h old mid new (GivesOneOf shops) (weaker h old mid (h.may_leave old) (GivesOneOf shops) all finding)
        (landing shops s log.0 (there_is shops s held gives all) log.2 log.1 (read s held).1)

    pub some_ok : {T E : Type 0} (new : D) (shop : Image) (r : Result T E)
        → OnOk r ((shops : List Image) (s : Folder) (f : List ℕ) → IsFound h mid shops s → known ≡ Some f → s.log ≡ Some f
        → now ≡ s.image → RestsAlone h new shop × Gives s shop)
        → OnOk r ((shops : List Image) (s : Folder) → h.held old ≡ Some s → GivesOneOf shops s
        → AllLeft h old (GivesOneOf shops) → RestsAlone h new shop × Gives s shop)
    some_ok new shop (Ok x) landed = λ shops s held gives all.
        let log = opened s held in landed shops s log.0 (there_is shops s held gives all) log.2 log.1 (read s held).1
    some_ok new shop (Err e) landed = tt

    pub some_refused : {T E : Type 0} (IsMisfit : E → Type 0) (new : D) (r : Result T E)
        → IfErr r (λ e. IsMisfit e → (h.held new ≡ h.held mid)
        × ((f : List ℕ) → known ≡ Some f → (given : Image) → LogGives f now given → ⊥))
        → IfErr r (λ e. IsMisfit e → (s : Folder) → h.held old ≡ Some s
        → (h.held new ≡ Some s) × ((given : Image) → Gives s given → ⊥))
    some_refused IsMisfit new (Ok x) refused = tt
    some_refused IsMisfit new (Err e) refused = λ misfit s held.
        let log = opened s held in (
          (refused misfit).0 ∙ (read s held).0,
          λ given gives. (refused misfit).1 log.0 log.2 given
              (subst (λ (i : Image). LogGives log.0 i given) (sym (read s held).1) (gives_log s log.0 given log.1 gives)),
        )

  -- or it has none
  pub none_ok : (old mid : D) (now shop : Image) → shop ≡ now
      → ((s : Folder) → h.held old ≡ Some s → (h.held mid ≡ Some s) × (now ≡ s.image) × (s.log ≡ None))
      → ((s : Folder) → h.held old ≡ Some s → AllLeft h mid (IsSettledAs s))
      → (s : Folder) → h.held old ≡ Some s → RestsAlone h mid shop × Gives s shop
  none_ok old mid now shop same read settles s held =
      let is : s.image ≡ shop = sym (same ∙ (read s held).1) in (
        record {
          some = s;
          held = (read s held).0;
          is = (is, (read s held).2);
          left = λ o may. let as_read = settles s held o may in (as_read.0 ∙ is, as_read.1.none (read s held).2);
        },
        subst (λ (l : Option (List ℕ)). given_by l s.image shop) (sym (read s held).2) is,
      )

  -- the log was judged, and lands
  pub judged_moments : (mid new : D) (now shop : Image) (bytes : List ℕ) → LogGives bytes now shop
      → ((shops : List Image) (s : Folder) (f : List ℕ) → IsFound h mid shops s → s.log ≡ Some f → now ≡ s.image
      → LogGives f s.image shop → LeavesFolders h mid new (GivesOneOf shops))
      → (shops : List Image) (s : Folder) → IsFound h mid shops s → s.log ≡ Some bytes → now ≡ s.image
      → LeavesFolders h mid new (GivesOneOf shops)
  judged_moments mid new now shop bytes gives landing shops s there log is =
      landing shops s bytes there log is (subst (λ (i : Image). LogGives bytes i shop) is gives)

  pub judged_ok : (mid new : D) (now shop : Image) (bytes : List ℕ) → LogGives bytes now shop
      → ((shops : List Image) (s : Folder) (f : List ℕ) → IsFound h mid shops s → s.log ≡ Some f → now ≡ s.image
      → LogGives f s.image shop → RestsAlone h new shop)
      → (shops : List Image) (s : Folder) → IsFound h mid shops s → s.log ≡ Some bytes → now ≡ s.image
      → RestsAlone h new shop × Gives s shop
  judged_ok mid new now shop bytes gives landed shops s there log is =
      let gives_here : LogGives bytes s.image shop = subst (λ (i : Image). LogGives bytes i shop) is gives in (
        landed shops s bytes there log is gives_here,
        subst (λ (l : Option (List ℕ)). given_by l s.image shop) (sym log) gives_here,
      )
