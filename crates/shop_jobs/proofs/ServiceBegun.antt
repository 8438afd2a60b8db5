-- What is known of a log that was begun for a service, and of the service over it.
use Rattle.std.proofs.Common.{◌≡◌, ◌∙◌, ◌++◌, ◌∷◌, ◌<◌, ◌≤◌, [], ℕ, zero, suc, List, Option, None, Some, ap, ap₂, arith, drop, get_or, inl, inr, le_trans, length, refl, subst, sym, take, ⊎_elim}
use Rattle.std.specs.Prelude.{◌⊎◌, IsErr, flat_map}
use Rattle.std.specs.Simd.{first_chunks}
use Rattle.std.proofs.Math.Seq.{drop-append_seam, take-append_seam}
use Rattle.std.specs.Io.Buffered.{reader_buffer, reader_capacity, reader_inner, reader_remaining}
use Rattle.std.specs.Io.KnownBytes.{prepend_known}
use Rattle.std.specs.declared.io.buffered.BufReader.{BufReader}
use Rattle.d64_image.specs.Images.{Image}
use Rattle.d64_image.specs.Memory.{sectors_in}
use Rattle.image_log.specs.declared.life.live_log.LiveLog.{LiveLog}
use Rattle.image_log.specs.declared.log_file.LogFile.{Ghosts}
use Rattle.image_log.specs.life.Bringing.{IsBrought, RestsAlone}
use Rattle.image_log.specs.life.Folders.{AllLeft, Folder, FolderHistory, LeavesFolders}
use Rattle.image_log.proofs.lemmas.life.Renewed.{only_one}
use Rattle.image_log.proofs.lemmas.life.Steps.{weaker}
use Rattle.image_log.specs.life.LiveLogs.{IsBeginning, of_live}
use Rattle.image_log.specs.life.Shops.{Gives, GivesOneOf, given_by}
use Rattle.opened_files.specs.Ends.{JobEnd}
use Rattle.request_cards.specs.declared.reply.Reply.{Reply}
use Rattle.shop_jobs.proofs.ServiceKept.{served-so}
use Rattle.shop_jobs.specs.KeptServices.{IsBegunIn, IsServedAt, IsServedOrNot}

chunks_flat : (n : ℕ) (xs : List (List ℕ)) → length xs ≡ n → ((i : ℕ) → i < length xs → length (get_or xs i []) ≡ 256)
    → first_chunks 256 n (flat_map (λ s. s) xs) ≡ xs
chunks_flat zero [] many each = refl
chunks_flat zero (x ∷ xs) many each = absurd (omega (arith, many))
chunks_flat (suc n) [] many each = absurd (omega (arith, many))
chunks_flat (suc n) (x ∷ xs) many each =
    let rest = flat_map (λ (s : List ℕ). s) xs in
    let size : length x ≡ 256 = each zero (omega arith) in
    ap₂ (λ (a : List ℕ) (b : List (List ℕ)). a ∷ b) (ap (λ (m : ℕ). take m (x ++ rest)) (sym size) ∙ take-append_seam x rest)
    (ap (λ (bs : List ℕ). first_chunks 256 n bs) (ap (λ (m : ℕ). drop m (x ++ rest)) (sym size) ∙ drop-append_seam x rest)
    ∙ chunks_flat n xs (omega (arith, many)) (λ i low. each (suc i) (omega (arith, low))))

-- the sectors of the bytes of sectors, one after another
pub sectors_flat : (shop : Image) (bytes : List ℕ) → bytes ≡ flat_map (λ s. s) shop → length shop ≡ 683
    → ((i : ℕ) → i < length shop → length (get_or shop i []) ≡ 256) → sectors_in bytes ≡ shop
unfolding sectors_in
sectors_flat shop bytes is many each =
    ap (λ (bs : List ℕ). first_chunks 256 683 bs) is ∙ chunks_flat 683 shop many each

alone_gives : (t : Folder) (shop : Image) → t.image ≡ shop → t.log ≡ None → Gives t shop
alone_gives t shop image none = subst (λ (l : Option (List ℕ)). given_by l t.image shop) (sym none) image

-- a folder gives at most one image
one_given : (o : Option (List ℕ)) (image a b : Image) → given_by o image a → given_by o image b → a ≡ b
one_given None image a b x y = sym x ∙ y
one_given (Some log) image a b x y = sym x.is ∙ y.is

-- and if another gives one of a list that has no other, it gives this one too
gives_too : (c shop : Image) (s t : Folder) → GivesOneOf (c ∷ []) s → Gives s shop → GivesOneOf (c ∷ []) t → Gives t shop
gives_too c shop s t x gives y =
    subst (λ (i : Image). Gives t i) (sym (only_one c y.0 y.1) ∙ only_one c x.0 x.1
    ∙ one_given s.log s.image x.0 shop x.2 gives) y.2

module _ {F D : Type 0} {G : Ghosts F} (h : FolderHistory D) where
  -- a power loss left a folder that has P, until a log was begun
  begins : (d now : D) (begun : LiveLog F D G) (P Q : Folder → Type 0) → ((s : Folder) → Q s → P s) → LeavesFolders h d now P
      → IsBeginning h now begun Q → IsBeginning h d begun P
  begins d now begun P Q so first x =
      let of_now : (t : ℕ) (s : Folder) → t ≤ h.moment d → h.left_since now t s ⊎ Q s → h.left_since d t s ⊎ P s =
      λ t s le y. ⊎_elim (λ (was : h.left_since now t s). first.before t s le was) (λ (q : Q s). inr (so s q)) y in
      record {
        later = le_trans first.later x.later;
        each = λ s left. ⊎_elim (λ (was : h.left_since now (h.moment d) s). first.each s was) (λ (q : Q s). so s q)
            (x.before (h.moment d) s first.later left);
        before = λ t s le left. of_now t s le (x.before t s (le_trans le first.later) left);
      }

  -- a log was landed in a folder, and one begun with the image that it gave
  pub begun_in : (IsAt : D → Type 0) (folder now : D) (shop : Image) (image : List ℕ) (begun : LiveLog F D G) → IsAt folder
      → sectors_in image ≡ shop
      → ((c : Image) (s : Folder) → h.held folder ≡ Some s → GivesOneOf (c ∷ []) s → AllLeft h folder (GivesOneOf (c ∷ []))
      → RestsAlone h now shop × Gives s shop)
      → ((c : Image) (s : Folder) → h.held folder ≡ Some s → GivesOneOf (c ∷ []) s → AllLeft h folder (GivesOneOf (c ∷ []))
      → LeavesFolders h folder now (GivesOneOf (c ∷ [])))
      → ((s : Folder) → h.held now ≡ Some s → s.image ≡ shop → AllLeft h now (IsBrought shop)
      → (of_live h).stands_for begun shop)
      → ((s : Folder) → h.held now ≡ Some s → AllLeft h now (IsBrought shop) → IsBeginning h now begun (IsBrought shop))
      → IsBegunIn h IsAt image begun
  begun_in IsAt folder now shop image begun at same landed left_so stands begins_so = (
    folder,
    at,
    λ c s held gives left.
        let x = landed c s held gives left in
        let r = x.0 in
        let brought : AllLeft h now (IsBrought shop) =
        λ t may. let y = r.left t may in (y.0, alone_gives t shop y.0 y.1) in
        let moments = weaker h folder now (GivesOneOf (c ∷ [])) (λ t. Gives t shop)
        (λ t y. gives_too c shop s t gives x.1 y) (left_so c s held gives left) in (
          subst (λ (i : Image). (of_live h).stands_for begun i) (sym same) (stands r.some r.held r.is.0 brought),
          subst (λ (i : Image). Gives s i) (sym same) x.1,
          subst (λ (i : Image). IsBeginning h folder begun (λ t. Gives t i)) (sym same)
              (begins folder now begun (λ t. Gives t shop) (IsBrought shop) (λ t y. y.1) moments
              (begins_so r.some r.held brought)),
        ),
  )

-- a reader with a buffer that is empty gives what the reader below gives
pub fresh_reader : {R A : Type 0} (remaining : R → Option (List ℕ)) (r : BufReader R A) (inner : R) (all : List ℕ)
    → reader_inner r ≡ inner → reader_buffer r ≡ [] → reader_capacity r ≡ 8192 → remaining inner ≡ Some all
    → reader_remaining remaining r ≡ Some all
fresh_reader remaining r inner all is empty many gives =
    rw many (rw empty (ap (λ (x : Option (List ℕ)). prepend_known [] x) (ap remaining is ∙ gives)))

-- a service ended so, over a log that was begun at a path
pub kept_at : {F D W : Type 0} {G : Ghosts F} (h : FolderHistory D) (IsAt : D → Type 0) (Of : List ℕ → Type 0)
    (given other : Option (List ℕ)) (image bytes : List ℕ) (log : LiveLog F D G)
    (P : List (Reply × LiveLog F D G) → Option (Reply × LiveLog F D G) → Type 0) (old new : W) (ended end : JobEnd) → end ≡ ended → image ≡ bytes → Of bytes → IsBegunIn h IsAt bytes log
    → ((all : List ℕ) → other ≡ Some all → given ≡ Some all) → IsServedOrNot h image given log P old new ended
    → (IsErr end × (new ≡ old)) ⊎ IsServedAt G h IsAt Of other P end
kept_at {F} {D} {W} {G} h IsAt Of given other image bytes log P old new ended end is same of begun known x =
    subst (λ (e : JobEnd). (IsErr e × (new ≡ old)) ⊎ IsServedAt G h IsAt Of other P e) (sym is)
    (of_either (subst (λ (i : List ℕ). IsServedOrNot h i given log P old new ended) same x))
  where
    of_either : IsServedOrNot h bytes given log P old new ended
        → (IsErr ended × (new ≡ old)) ⊎ IsServedAt G h IsAt Of other P ended
    of_either (inl not) = inl not
    of_either (inr y) = inr (bytes, of, log, begun, served-so h bytes given other log P P known (λ turns last told. told) ended y)
