-- What an actor becomes, sends and writes for one input stays within a bound that what it takes keeps to, and one more;
-- and what its post leaves is within the bound.
use Rattle.std.proofs.Common.{ℕ, ◌+◌, ◌≤◌, Bool, true, false, List, [], ◌∷◌, ◌++◌, fold, Option, Some, None}
use Rattle.std.proofs.Common.{arith}
use Rattle.std.specs.Prelude.{option_to_list}
use Rattle.std.specs.List.{AllByRecursion as Every}
use Rattle.qc_list.proofs.Members.{every-append, every-weaker}
use Rattle.qc_client.specs.Vocabulary.{client_takes, moved as client_moved}
use Rattle.qc_core.specs.declared.actor.Actor.{Actor}
use Rattle.qc_core.specs.declared.actor.Actor.TheVariants.{Site, Client, Admin, Down}
use Rattle.qc_core.specs.Vocabulary.{ActorMove, actor_does, actor_sends, actor_takes, down_takes, moved, new_actor}
use Rattle.qc_core.proofs.ByNumber.{new_by}
use Rattle.qc_decl.specs.Vocabulary.{is_client, is_site}
use Rattle.qc_decl.specs.declared.declaration.Declaration.{Declaration}
use Rattle.qc_msg.specs.declared.message.Message.{Message}
use Rattle.qc_msg.specs.declared.record.Record.{Record}
use Rattle.qc_msg.specs.declared.record.Record.TheVariants as records
use Rattle.qc_msg.specs.declared.reply.Reply.{Reply}
use Rattle.qc_msg.specs.declared.step.Fall.TheVariants as causes
use Rattle.qc_msg.specs.declared.step.Input.{Input}
use Rattle.qc_msg.specs.declared.step.Input.TheVariants as inputs
use Rattle.qc_msg.specs.declared.turn.Appended.{Appended}
use Rattle.qc_msg.specs.declared.turn.Appended.TheVariants.{Done, Failed, Stopped}
use Rattle.qc_msg.specs.declared.turn.Posting.{Posting}
use Rattle.qc_msg.specs.declared.turn.Turn.{Turn}
use Rattle.qc_msg.specs.Vocabulary.{Deed, Falls, Rises, Sends, Takes, Tells, Writes, deeds_as, quiet, sends_of}
use Rattle.qc_msg.specs.Vocabulary.{tells_of, writes_of}
use Rattle.qc_site.specs.Vocabulary.{site_takes}
use Rattle.qc_epoch.specs.Conduct as admins
use Rattle.laws_turns.specs.Vocabulary.{ClientMoveWithin, GivenWithin, SiteMoveWithin}
use Rattle.laws_turns.proofs.ClientsWithin.{all_posts-within, client-le, client_takes_within}
use Rattle.laws_turns.proofs.Greater.{lines-le, sends-le}
use Rattle.laws_turns.proofs.SitesWithin.{site-le, site_takes_within}
use Rattle.laws_bounds.specs.Vocabulary.{AreWithin, MoveWithin, RecordWithin, StateWithin, TurnWithin}
use Rattle.laws_bounds.proofs.AdminsWithin.{AdminMoveWithin, admin_le, admin_sends_within, admin_takes_within}
use Rattle.laws_bounds.proofs.ClientWrites.{client_writes_within}
use Rattle.laws_bounds.proofs.SiteWrites.{WritesWithin, site_writes_within}

-- a greater bound

module _ (low high : ℕ) (le : low ≤ high) where
  record_le : (r : Record) → RecordWithin low r → RecordWithin high r
  record_le records.Life here = tt
  record_le (records.Prepare p) here = lines-le low high le p.lines here
  record_le (records.Done tx clock) here = (let c : clock ≤ low = here in omega arith)
  record_le (records.Close epoch) here = tt
  record_le (records.Install start) here =
      ((let c : start.clock ≤ low = here.0 in omega arith), lines-le low high le start.lines here.1)
  record_le (records.Commit c) here = (let k : c.stamp.clock ≤ low = here in omega arith)
  record_le (records.Decide start) here =
      ((let c : start.clock ≤ low = here.0 in omega arith), lines-le low high le start.lines here.1)

  pub records_le : (rs : List Record) → AreWithin low rs → AreWithin high rs
  records_le rs all = every-weaker (RecordWithin low) (RecordWithin high) record_le rs all

  pub state_le : (v : Actor) → StateWithin low v → StateWithin high v
  state_le (Site s) w = site-le low high s le w
  state_le (Client c) w = client-le low high c le w
  state_le (Admin m) w = admin_le low high le m w
  state_le Down w = tt

  pub turn_le : (t : Turn) → TurnWithin low t → TurnWithin high t
  turn_le t w = record {
    sends = sends-le low high le t.sends w.sends;
    failed_sends = sends-le low high le t.failed_sends w.failed_sends;
    write = records_le (option_to_list t.write) w.write;
  }

  pub move_le : (m : ActorMove) → MoveWithin low m → MoveWithin high m
  move_le m w = record { state = state_le m.actor w.state; turn = turn_le m.turn w.turn }

quiet_within : (bound : ℕ) → TurnWithin bound quiet
quiet_within bound = record { sends = tt; failed_sends = tt; write = tt }

pub down_within : (bound : ℕ) → MoveWithin bound (moved Down quiet)
down_within bound = record { state = tt; turn = quiet_within bound }

-- an actor that has done nothing
pub new_within : (bound : ℕ) (decl : Declaration) (a : ℕ) → MoveWithin bound (moved (new_actor decl a) quiet)
new_within bound decl a = record { state = by (is_site decl a) (is_client decl a); turn = quiet_within bound }
  where
    by : (site client : Bool) → StateWithin bound (new_by decl a site client)
    by true client = record { clock = omega arith; began = tt; log = tt; arrived = tt; prepared = tt }
    by false true = record {
      front = record { clock = omega arith; count = omega arith; views = tt };
      desk = record { clock = omega arith; commits = tt };
    }
    by false false = record { decided = tt; doing = tt }

-- one input

down_taken : (bound : ℕ) (g : Input) → TurnWithin bound (down_takes g)
down_taken bound (inputs.Called command) = record { sends = tt; failed_sends = tt; write = tt }
down_taken bound (inputs.Got e) = quiet_within bound
down_taken bound (inputs.Lost number) = quiet_within bound

module _ (bound : ℕ) (decl : Declaration) where
  pub takes_within : (v : Actor) (g : Input) → StateWithin bound v → GivenWithin bound g
      → MoveWithin (bound + 1) (actor_takes decl v g)
  takes_within (Site s) g w here =
      let m : SiteMoveWithin bound (site_takes decl s g) = site_takes_within bound decl s g w here in
      let t : WritesWithin bound (site_takes decl s g).turn = site_writes_within bound decl s g w here in
      move_le bound (bound + 1) (omega arith) (actor_takes decl (Site s) g)
      (record { state = m.site; turn = record { sends = m.sends; failed_sends = t.failed_sends; write = t.write } })
  takes_within (Client c) g w here =
      let m : ClientMoveWithin (bound + 1) (client_takes decl c g) = client_takes_within bound decl c w g here in
      let t : WritesWithin (bound + 1) (client_takes decl c g).turn =
      client_writes_within decl c (bound + 1) g m.client in
      record {
        state = m.client;
        turn = record { sends = m.sends; failed_sends = t.failed_sends; write = t.write };
      }
  takes_within (Admin m) g w here =
      let on : AdminMoveWithin bound (admins.admin_takes decl m g) = admin_takes_within bound decl m w g here in
      move_le bound (bound + 1) (omega arith) (actor_takes decl (Admin m) g)
      (record { state = on.admin; turn = on.turn })
  takes_within Down g w here = record { state = tt; turn = down_taken (bound + 1) g }

-- a post

-- a deed that is neither an input nor a rise
abbrev pub IsOfPost : Deed → Type 0
IsOfPost (Takes g) = ⊥
IsOfPost (Writes written) = Unit {0}
IsOfPost (Sends number to message) = Unit {0}
IsOfPost (Tells reply) = Unit {0}
IsOfPost (Falls cause pending) = Unit {0}
IsOfPost (Rises records) = ⊥

sends_post : (n : ℕ) (ps : List Posting) → Every IsOfPost (sends_of n ps)
sends_post n [] = tt
sends_post n (p ∷ ps) = (tt, sends_post (n + 1) ps)

tells_post : (told : Option Reply) → Every IsOfPost (tells_of told)
tells_post None = tt
tells_post (Some reply) = (tt, tt)

writes_post : (write : Option Record) → Every IsOfPost (writes_of write)
writes_post None = tt
writes_post (Some written) = (tt, tt)

pub deeds_post : (end : Appended) (n : ℕ) (turn : Turn) → Every IsOfPost (deeds_as end n turn)
deeds_post Done n turn =
    every-append IsOfPost (writes_of turn.write) (sends_of n turn.sends ++ tells_of turn.told) (writes_post turn.write)
    (every-append IsOfPost (sends_of n turn.sends) (tells_of turn.told) (sends_post n turn.sends)
    (tells_post turn.told))
deeds_post Failed n turn =
    every-append IsOfPost (sends_of n turn.failed_sends)
    (tells_of turn.failed_told ++ Falls causes.Disk turn.write ∷ [])
    (sends_post n turn.failed_sends)
    (every-append IsOfPost (tells_of turn.failed_told) (Falls causes.Disk turn.write ∷ []) (tells_post turn.failed_told)
    (tt, tt))
deeds_post Stopped n turn =
    every-append IsOfPost (tells_of turn.failed_told) (Falls causes.Stop turn.write ∷ []) (tells_post turn.failed_told)
    (tt, tt)

module _ (bound : ℕ) (decl : Declaration) (a : ℕ) where
  sends_within : (v : Actor) (number to : ℕ) (message : Message) → StateWithin bound v
      → StateWithin bound (actor_sends v number to message)
  sends_within (Site s) number to message w = w
  sends_within (Client c) number to message w =
      (all_posts-within bound decl (client_moved c quiet) (Sends number to message ∷ []) (tt, tt)
      (record { client = w; sends = tt })).client
  sends_within (Admin m) number to message w = admin_sends_within bound m number to message w
  sends_within Down number to message w = w

  pub posts_within : (m : ActorMove) (ds : List Deed) → Every IsOfPost ds → MoveWithin bound m
      → MoveWithin bound (fold (actor_does decl a) m ds)
  posts_within m [] all w = w
  posts_within m (Takes g ∷ ds) all w = absurd all.0
  posts_within m (Writes written ∷ ds) all w = posts_within m ds all.1 w
  posts_within m (Sends number to message ∷ ds) all w =
      posts_within (record m { actor = actor_sends m.actor number to message }) ds all.1
      (record { state = sends_within m.actor number to message w.state; turn = w.turn })
  posts_within m (Tells reply ∷ ds) all w = posts_within m ds all.1 w
  posts_within m (Falls cause pending ∷ ds) all w = posts_within (moved Down quiet) ds all.1 (down_within bound)
  posts_within m (Rises records ∷ ds) all w = absurd all.0
