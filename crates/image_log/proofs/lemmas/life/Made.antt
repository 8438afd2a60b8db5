-- A new log is made, named, and both are brought to the disk.
use Rattle.std.proofs.Common.{◌≡◌, ◌∙◌, ℕ, List, Bool, ap, false, inl, refl, subst, sym, true, ⊎_elim}
use Rattle.std.proofs.lemmas.Bool.{false≢true}
use Rattle.std.specs.Prelude.{Contains, None, Option, Result, Some}
use Rattle.d64_image.specs.Images.{Image}
use Rattle.image_log.specs.Files.{FileHistory}
use Rattle.image_log.specs.Logs.{StandsFor, log_file}
use Rattle.image_log.specs.declared.log.Log.{Log}
use Rattle.image_log.specs.declared.log_file.LogFile.{Ghosts}
use Rattle.image_log.specs.life.Bringing.{IsBrought, IsWith, RestsAlone}
use Rattle.image_log.specs.life.Folders.{Acts, AllLeft, Brings, Folder, FolderHistory, HasNames, IsGivenUp, IsMaking, IsNaming, LeavesFolders, Making, Same, being_made, named}
use Rattle.image_log.specs.life.Folders.Making.{Fresh, Missing, Older}
use Rattle.image_log.specs.life.Serving.{IsServing}
use Rattle.image_log.specs.life.Shops.{Gives, GivesOneOf, LogGives, given_by}
use Rattle.image_log.proofs.lemmas.life.Steps.{goes_on, joined, started, weaker}

is_missing : Making → Bool
is_missing Missing = true
is_missing Fresh = false
is_missing Older = false

pub not_both : (m : Making) → m ≡ Fresh → m ≡ Missing → ⊥
unfolding is_missing
not_both m fresh missing = false≢true (sym (ap is_missing fresh) ∙ ap is_missing missing)

-- a folder gives one image at most
unique_in : (l : Option (List ℕ)) (image one other : Image) → given_by l image one → given_by l image other → one ≡ other
unique_in None image one other a b = sym a ∙ b
unique_in (Some log) image one other a b = sym a.is ∙ b.is

pub one_gives : (shops : List Image) (s : Folder) (shop : Image) → GivesOneOf shops s → Gives s shop → Contains shops shop
one_gives shops s shop one gives = subst (Contains shops) (unique_in s.log s.image one.0 shop one.2 gives) one.1

-- IMAGE alone gives its image
alone_gives : (shop : Image) (s : Folder) → IsWith None shop s → IsBrought shop s
alone_gives shop s alone = (alone.0, subst (λ (l : Option (List ℕ)). given_by l s.image shop) (sym alone.1) alone.0)

moved : (shop : Image) (s from : Folder) → s.image ≡ from.image → s.log ≡ from.log → IsBrought shop from → IsBrought shop s
moved shop s from image log is = (
  image ∙ is.0,
  subst (λ (l : Option (List ℕ)). given_by l s.image shop) (sym log)
      (subst (λ (i : Image). given_by from.log i shop) (sym image) is.1),
)

module _ {D : Type 0} (h : FolderHistory D) (old a : D) (shop : Image) (s : Folder) (held : h.held old ≡ Some s)
    (all : AllLeft h old (IsBrought shop)) {T E : Type 0} (making : Result T E)
    (makes : Acts h old a being_made IsMaking making) where
  made : AllLeft h a (IsBrought shop)
  made o may = let from = makes.outcomes o may in moved shop o from.0 from.2.image from.2.log (all from.0 from.1)

  pub made_moments : LeavesFolders h old a (IsBrought shop)
  made_moments = goes_on h old old a (IsBrought shop) (started h old (IsBrought shop) all) makes.time made

  -- and then its file failed, and was closed
  pub given_up_moments : {F : Type 0} (g : FileHistory F) (b : D) (file : F) → IsGivenUp h a b (g.has_failed file)
      → LeavesFolders h old b (IsBrought shop)
  given_up_moments g b file up = goes_on h old a b (IsBrought shop) made_moments up.time (λ o may. made o (up.outcomes o may))

  module _ (b : D) {E2 : Type 0} (syncing : Result Unit E2) (brings : Brings h a b HasNames syncing) where
    kept : AllLeft h b (IsBrought shop)
    kept o may = made o (brings.outcomes o may)

    pub kept_moments : LeavesFolders h old b (IsBrought shop)
    kept_moments = goes_on h old a b (IsBrought shop) made_moments brings.time kept

    module _ {F : Type 0} {G : Ghosts F} (log : Log F G) (stands : StandsFor log shop shop)
        (keeps : (x : Folder) → h.held old ≡ Some x → h.held a ≡ Some (being_made x))
        (synced : (x : Folder) → h.held a ≡ Some x → AllLeft h b (HasNames x))
        (c : D) {T3 E3 : Type 0} (naming : Result T3 E3)
        (names : Acts h b c (named stands.bytes) (IsNaming stands.bytes) naming) where
      gives_shop : (image : Image) → image ≡ shop → LogGives stands.bytes image shop
      gives_shop image is = record {
        size = stands.size;
        based = stands.based;
        own = inl (is ∙ sym stands.base);
        is = stands.image;
        ends = stands.ends;
      }

      fresh : (o : Folder) → h.may_leave b o → o.making ≡ Fresh
      fresh o may = (synced (being_made s) (keeps s held) o may).making

      logged : (o : Folder) → o.image ≡ shop → o.log ≡ Some stands.bytes → IsBrought shop o
      logged o image is = (image, subst (λ (l : Option (List ℕ)). given_by l o.image shop) (sym is) (gives_shop o.image image))

      named_all : AllLeft h c (IsBrought shop)
      named_all o may =
          let from = names.outcomes o may in
          ⊎_elim
          (λ same. subst (IsBrought shop) (sym same) (kept from.0 from.1))
          (λ done. logged o (from.2.image ∙ (kept from.0 from.1).0) (done.1 (fresh from.0 from.1)))
          from.2.is

      pub named_moments : LeavesFolders h old c (IsBrought shop)
      named_moments = goes_on h old b c (IsBrought shop) kept_moments names.time named_all

      has_name : (o : Folder) → h.may_leave c o → o.making ≡ Missing → o.log ≡ Some stands.bytes
      has_name o may missing =
          let from = names.outcomes o may in
          ⊎_elim
          (λ same. absurd (not_both o.making (ap (λ (x : Folder). x.making) same ∙ fresh from.0 from.1) missing))
          (λ done. done.1 (fresh from.0 from.1))
          from.2.is

      module _ (d : D) {E4 : Type 0} (last : Result Unit E4) (keep : Brings h c d HasNames last) where
        pub all_moments : LeavesFolders h old d (IsBrought shop)
        all_moments = goes_on h old c d (IsBrought shop) named_moments keep.time
            (λ o may. named_all o (keep.outcomes o may))

        pub serves : s.image ≡ shop → ((x : Folder) → h.held b ≡ Some x → h.held c ≡ Some (named stands.bytes x))
            → ((x : Folder) → h.held c ≡ Some x → AllLeft h d (HasNames x))
            → h.lent c ≡ G.history.moment (log_file log) → IsServing h d log shop
        serves image renames lasts lent =
            let there : h.held c ≡ Some (named stands.bytes (being_made s)) =
            renames (being_made s) (brings.held ∙ keeps s held) in
            record {
              stands = stands;
              some = named stands.bytes (being_made s);
              held = keep.held ∙ there;
              image = image;
              beside = refl;
              left = λ o may. (
                (named_all o (keep.outcomes o may)).0,
                has_name o (keep.outcomes o may) (lasts (named stands.bytes (being_made s)) there o may).making,
                (lasts (named stands.bytes (being_made s)) there o may).making,
              );
              lent = keep.lent ∙ lent;
            }

module _ {D : Type 0} (h : FolderHistory D) (old mid new : D) (shop : Image) (shops : List Image) (s : Folder)
    (one : GivesOneOf shops s) (landing : LeavesFolders h old mid (GivesOneOf shops))
    (landed : RestsAlone h mid shop × Gives s shop) where
  pub brought_alone : AllLeft h mid (IsBrought shop)
  brought_alone o may = alone_gives shop o (landed.0.left o may)

  pub begun_moments : LeavesFolders h mid new (IsBrought shop) → LeavesFolders h old new (GivesOneOf shops)
  begun_moments making = joined h old mid new (GivesOneOf shops) landing
      (weaker h mid new (IsBrought shop) (GivesOneOf shops) (λ o is. (shop, one_gives shops s shop one landed.1, is.1)) making)

-- nothing that the folder holds changes
pub serving_on : {F D T E : Type 0} {G : Ghosts F} (h : FolderHistory D) (old new : D) (log : Log F G) (shop : Image) (r : Result T E)
    → IsServing h old log shop → Acts h old new (λ s. s) Same r → ((s : Folder) → h.held old ≡ Some s → h.held new ≡ Some s)
    → h.lent new ≡ h.lent old → IsServing h new log shop
serving_on h old new log shop r serving acts held lent = record {
  stands = serving.stands;
  some = serving.some;
  held = held serving.some serving.held;
  image = serving.image;
  beside = serving.beside;
  left = λ s may.
      let from = acts.outcomes s may in
      subst (λ (t : Folder). (t.image ≡ shop) × (t.log ≡ Some serving.stands.bytes) × (t.making ≡ serving.some.making)) (sym from.2)
      (serving.left from.0 from.1);
  lent = lent ∙ serving.lent;
}
