-- Which turn an actor's last input or rise calls for, after its deeds: a site's, a client's, or the administrator's;
-- nobody else takes inputs.
use Rattle.std.specs.Prelude.{◌≡◌, ℕ, ◌-◌, if◌then◌else◌, List, Option, Some, None}
use Rattle.qc_decl.specs.declared.declaration.Declaration.{Declaration}
use Rattle.qc_decl.specs.Vocabulary.{is_administrator, is_client, is_site}
use Rattle.qc_client.specs.Vocabulary.{client_after}
use Rattle.qc_msg.specs.declared.turn.Appended.TheVariants.{Done}
use Rattle.qc_msg.specs.declared.turn.Turn.{Turn}
use Rattle.qc_msg.specs.Vocabulary.{Deed, MayEnd}
use Rattle.qc_site.specs.Vocabulary.{site_after}
use Rattle.qc_core.specs.Actors.{actor_after}

-- where no actor falls, and nobody asks the administrator: the conduct of a site, or of a client, alone

abbrev pub turn_after : Declaration → ℕ → List Deed → Option Turn
turn_after decl a deeds =
    if is_site decl a then Some (site_after decl a deeds).turn
    else (if is_client decl a then Some (client_after decl (a - decl.sites) deeds).turn else None)

-- a turn is lawful where it is the one that the actor's last input calls for
abbrev pub IsLawful : Declaration → ℕ → List Deed → Turn → Type 0
IsLawful decl a deeds turn = turn_after decl a deeds ≡ Some turn

-- where actors fall and rise

abbrev pub turn_with_falls : Declaration → ℕ → List Deed → Option Turn
turn_with_falls decl a deeds =
    if is_site decl a then Some (actor_after decl a deeds).turn
    else (if is_client decl a then Some (actor_after decl a deeds).turn
    else (if is_administrator decl a then Some (actor_after decl a deeds).turn else None))

-- a turn as the conduct has it: the conduct doesn't know what becomes of the record
abbrev pub with_record : Turn → Turn
with_record turn = record turn { append = Done }

-- a turn is lawful where it is the one that the actor's last input or rise calls for, but for what became of its
-- record; and only a turn that has a record may end otherwise than written
pub record IsLawfulWithFalls (decl : Declaration) (a : ℕ) (deeds : List Deed) (turn : Turn) : Type 0 where
  pub called_for : turn_with_falls decl a deeds ≡ Some (with_record turn)
  pub may_end : MayEnd turn.write turn.append
