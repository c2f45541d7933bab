-- A short site: beside the log that its epoch began with, its base, it keeps the lines since, and it is sent no more of
-- a view than it lacks. It goes beside the machine's site, which keeps all in one log.
use Rattle.std.specs.Prelude.{◌≡◌, ◌⊎◌, List, [], ◌∷◌}
use Rattle.qc_entry.specs.declared.line.Line.{Line}
use Rattle.qc_list.specs.Vocabulary.{In}
use Rattle.theory_machine.specs.Vocabulary.{Closes, Deed, Grants, Installs, LearnsAbort, LearnsCommit, Prepares, Rises}
use Rattle.theory_machine.specs.Vocabulary.{Site, after_deed, empty_site}

-- the log that its epoch began with, after a deed of the machine's site
abbrev pub base_after : List Line → Deed → List Line
base_after base (Grants tx items view) = base
base_after base (Prepares tx) = base
base_after base (LearnsCommit tx stamp) = base
base_after base (LearnsAbort tx) = base
base_after base Closes = base
base_after base (Installs epoch clock log) = log
base_after base Rises = base

-- the short site after a deed: an Install leaves it empty
abbrev pub after_short : Site → Deed → Site
after_short s (Grants tx items view) = after_deed s (Grants tx items view)
after_short s (Prepares tx) = after_deed s (Prepares tx)
after_short s (LearnsCommit tx stamp) = after_deed s (LearnsCommit tx stamp)
after_short s (LearnsAbort tx) = after_deed s (LearnsAbort tx)
after_short s Closes = after_deed s Closes
after_short s (Installs epoch clock log) = empty_site
after_short s Rises = after_deed s Rises

-- oldest first
abbrev pub base_from : List Line → List Deed → List Line
base_from base [] = base
base_from base (d ∷ ds) = base_from (base_after base d) ds

abbrev pub short_from : Site → List Deed → Site
short_from s [] = s
short_from s (d ∷ ds) = short_from (after_short s d) ds

-- after all deeds: the first epoch begins with nothing
abbrev pub base_of : List Deed → List Line
base_of ds = base_from [] ds

abbrev pub short_site_after : List Deed → Site
short_site_after ds = short_from empty_site ds

-- of a view these lines are sent: the short site, or its base, has the others
pub record IsShortView (base : List Line) (s : Site) (view lines : List Line) : Type 0 where
  pub part : (l : Line) → In l lines → In l view
  pub covers : (l : Line) → In l view → In l lines ⊎ (In l s.volatile ⊎ In l base)

-- what the short site does for a deed of the machine's: the same, but a view may be short
abbrev pub IsShortDeed : List Line → Site → Deed → Deed → Type 0
IsShortDeed base s (Grants tx items view) d =
    (lines : List Line) × (d ≡ Grants tx items lines) × IsShortView base s view lines
IsShortDeed base s (Prepares tx) d = d ≡ Prepares tx
IsShortDeed base s (LearnsCommit tx stamp) d = d ≡ LearnsCommit tx stamp
IsShortDeed base s (LearnsAbort tx) d = d ≡ LearnsAbort tx
IsShortDeed base s Closes d = d ≡ Closes
IsShortDeed base s (Installs epoch clock log) d = d ≡ Installs epoch clock log
IsShortDeed base s Rises d = d ≡ Rises

-- the same for deeds one by one, from a base and a short site on
abbrev pub AreShortFrom : List Line → Site → List Deed → List Deed → Type 0
AreShortFrom base s [] [] = Unit {0}
AreShortFrom base s [] (d ∷ ds) = ⊥
AreShortFrom base s (e ∷ es) [] = ⊥
AreShortFrom base s (e ∷ es) (d ∷ ds) =
    IsShortDeed base s e d × AreShortFrom (base_after base e) (after_short s d) es ds

-- deeds of a short site, for all deeds of the machine's
abbrev pub AreShortDeeds : List Deed → List Deed → Type 0
AreShortDeeds whole short = AreShortFrom [] empty_site whole short

-- the whole log has the lines of the short one and of the base, and no others
pub record IsUnionOf (base short whole : List Line) : Type 0 where
  pub only : (l : Line) → In l whole → In l short ⊎ In l base
  pub has_short : (l : Line) → In l short → In l whole
  pub has_base : (l : Line) → In l base → In l whole

-- with its base the short site has the lines of the machine's, in both logs, and it holds and promises the same
pub record StandsFor (base : List Line) (whole short : Site) : Type 0 where
  pub volatile : IsUnionOf base short.volatile whole.volatile
  pub stable : IsUnionOf base short.stable whole.stable
  pub held : whole.held ≡ short.held
  pub prepared : whole.prepared ≡ short.prepared
  pub promises : whole.promises ≡ short.promises
