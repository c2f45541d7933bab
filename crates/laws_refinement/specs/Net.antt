-- The system over a network that may do anything: each message that was ever sent may be taken by its receiver, again
-- and late, and any request may be taken for lost. An actor takes an input and posts its turn in one step. Any actor
-- may fall, at any time or as it writes a record, and rises with the records that it wrote, and maybe the one that it
-- was writing.
use Rattle.std.specs.Prelude.{[], MatchOption, ◌≡◌, ℕ, ◌+◌, true, List, ◌∷◌, ◌++◌, length, Some, ◌-◌, ◌<◌, ◌⊎◌, Bool}
use Rattle.std.specs.Prelude.{false, Option, None, option_to_list}
use Rattle.qc_entry.specs.declared.record.Commit.{Commit as CommitRecord}
use Rattle.qc_table.specs.declared.kind.Kind.{Kind}
use Rattle.qc_decl.specs.Vocabulary.{administrator, is_client, is_site, kind_at}
use Rattle.qc_msg.specs.declared.record.Record.{Record}
use Rattle.qc_msg.specs.declared.record.Record.TheVariants.{Life}
use Rattle.qc_msg.specs.declared.step.Command.{Command}
use Rattle.qc_msg.specs.Vocabulary.{commit_of, envelopes, Invocation, do_in, epoch_in}
use Rattle.qc_epoch.specs.Vocabulary.{Admin, AdminMove, admin_takes, new_admin, sent_one}
use Rattle.qc_client.specs.Vocabulary.{ClientMove, IsFree, client_takes, new_client, sent_one as client_sent_one}
use Rattle.qc_client.specs.declared.client.Client.{Client}
use Rattle.qc_list.specs.Vocabulary.{In}
use Rattle.qc_decl.specs.declared.declaration.Declaration.{Declaration}
use Rattle.qc_msg.specs.declared.message.Envelope.{Envelope}
use Rattle.qc_msg.specs.declared.step.Input.{Input}
use Rattle.qc_msg.specs.declared.step.Input.TheVariants.{Called, Got, Lost}
use Rattle.qc_msg.specs.declared.turn.Posting.{Posting}
use Rattle.qc_msg.specs.declared.turn.Turn.{Turn}
use Rattle.theory_machine.specs.Vocabulary.{put}
use Rattle.qc_site.specs.Vocabulary.{SiteMove, SiteState, new_site, site_takes}
use Rattle.qc_recover.specs.Vocabulary.{admin_rises, client_rises, site_rises}
use Rattle.laws_refinement.specs.Sites.{IsPlanned}

pub record Net : Type 0 where
  -- all messages that were sent, each at the place of its number
  pub mail : List Envelope
  pub sites : ℕ → SiteState
  pub clients : ℕ → Client
  pub admin : Admin
  -- the commit records that stand
  pub written : List CommitRecord
  -- by actor: whether it is up, the records that it wrote, and, until it rises, the one that was being written as it
  -- fell
  pub up : ℕ → Bool
  pub records : ℕ → List Record
  pub pending : ℕ → Option Record

abbrev pub first_net : Declaration → Net
first_net decl =
    record {
      mail = [];
      sites = new_site;
      clients = λ a. new_client (a - decl.sites);
      admin = new_admin;
      written = [];
      up = λ a. true;
      records = λ a. [];
      pending = λ a. None;
    }

-- the records of an actor, and those that its turn writes
abbrev pub more_records : (ℕ → List Record) → ℕ → Option Record → ℕ → List Record
more_records records a write = put records a (records a ++ option_to_list write)

-- the administrator's messages get their numbers one after another
abbrev pub all_sent : Admin → ℕ → List Posting → Admin
all_sent m number [] = m
all_sent m number (p ∷ ps) = all_sent (sent_one m number p.to p.message) (number + 1) ps

-- turns are posted

abbrev pub after_site : Net → ℕ → SiteMove → Net
after_site net a move =
    record {
      mail = net.mail ++ envelopes a (length net.mail) move.turn.sends;
      sites = put net.sites a move.site;
      clients = net.clients;
      admin = net.admin;
      written = net.written;
      up = net.up;
      records = more_records net.records a move.turn.write;
      pending = net.pending;
    }

abbrev pub after_admin : Declaration → Net → AdminMove → Net
after_admin decl net move =
    record {
      mail = net.mail ++ envelopes (administrator decl) (length net.mail) move.turn.sends;
      sites = net.sites;
      clients = net.clients;
      admin = all_sent move.admin (length net.mail) move.turn.sends;
      written = net.written;
      up = net.up;
      records = more_records net.records (administrator decl) move.turn.write;
      pending = net.pending;
    }

-- a client's messages get their numbers one after another, from this one on
abbrev pub sent_all : Client → ℕ → List Posting → Client
sent_all c number [] = c
sent_all c number (p ∷ ps) = sent_all (client_sent_one c number p.to p.message) (number + 1) ps

-- the commit record of a turn, if it writes one
abbrev pub commits_in : Option Record → List CommitRecord
commits_in None = []
commits_in (Some written) = option_to_list (commit_of written)

-- a client moves, and its turn is posted
abbrev pub after_client : Net → ℕ → ClientMove → Net
after_client net a move =
    record {
      mail = net.mail ++ envelopes a (length net.mail) move.turn.sends;
      sites = net.sites;
      admin = net.admin;
      clients = put net.clients a (sent_all move.client (length net.mail) move.turn.sends);
      written = net.written ++ commits_in move.turn.write;
      up = net.up;
      records = more_records net.records a move.turn.write;
      pending = net.pending;
    }

-- a `do` names a declared object, and an invocation of its type; an `epoch` one that is declared

abbrev pub IsNamedAt : Declaration → ℕ → ℕ → Type 0
IsNamedAt decl object inv = (kind : Kind) × (kind_at decl object ≡ Some kind) × (inv < kind.table.invs)

abbrev pub IsNamed : Declaration → Command → Type 0
IsNamed decl command =
    MatchOption (do_in command) (MatchOption (epoch_in command) (Unit {0}) (λ (number : ℕ). IsPlanned decl number))
    (λ (i : Invocation). IsNamedAt decl i.object i.inv)

-- what may come to an actor: a message that was sent to it; anything may be taken for lost
abbrev pub MayCome : Net → ℕ → Input → Type 0
MayCome net a (Called command) = Unit {0}
MayCome net a (Got envelope) = In envelope net.mail × (envelope.to ≡ a)
MayCome net a (Lost number) = Unit {0}

-- and to the administrator: a command that names what is declared
abbrev pub MayAdminister : Declaration → Input → Type 0
MayAdminister decl (Called command) = IsNamed decl command
MayAdminister decl (Got envelope) = Unit {0}
MayAdminister decl (Lost number) = Unit {0}

-- and to a client: a command where none runs, which names what is declared
abbrev pub MayCommand : Declaration → Client → Input → Type 0
MayCommand decl c (Called command) = IsFree c × IsNamed decl command
MayCommand decl c (Got envelope) = Unit {0}
MayCommand decl c (Lost number) = Unit {0}

-- an actor falls, with this record being written, or none, and having sent these messages
abbrev pub after_fall : Net → ℕ → Option Record → List Posting → Net
after_fall net a pending sends =
    record net {
      mail = net.mail ++ envelopes a (length net.mail) sends;
      up = put net.up a false;
      pending = put net.pending a pending;
    }

-- what an actor that is down is given as it rises: its records, and with them the pending one, or not
abbrev pub IsGivenBack : Net → ℕ → Option Record → Type 0
IsGivenBack net a back = (back ≡ None) ⊎ (back ≡ net.pending a)

-- it rises with these records, and the record of its rise is written
abbrev pub after_site_rise : Declaration → Net → ℕ → Option Record → Net
after_site_rise decl net a back =
    let records : List Record = net.records a ++ option_to_list back in
    record {
      mail = net.mail ++ envelopes a (length net.mail) (site_rises decl a records).turn.sends;
      sites = put net.sites a (site_rises decl a records).site;
      clients = net.clients;
      admin = net.admin;
      written = net.written;
      up = put net.up a true;
      records = put net.records a (records ++ Life ∷ []);
      pending = put net.pending a None;
    }

abbrev pub after_client_rise : Declaration → Net → ℕ → Option Record → Net
after_client_rise decl net a back =
    let records : List Record = net.records a ++ option_to_list back in
    record {
      mail = net.mail;
      sites = net.sites;
      admin = net.admin;
      clients = put net.clients a (client_rises (a - decl.sites) records).client;
      written = net.written ++ commits_in back;
      up = put net.up a true;
      records = put net.records a (records ++ Life ∷ []);
      pending = put net.pending a None;
    }

abbrev pub after_admin_rise : Declaration → Net → Option Record → Net
after_admin_rise decl net back =
    let records : List Record = net.records (administrator decl) ++ option_to_list back in
    record {
      mail = net.mail;
      sites = net.sites;
      clients = net.clients;
      admin = (admin_rises records).admin;
      written = net.written;
      up = put net.up (administrator decl) true;
      records = put net.records (administrator decl) (records ++ Life ∷ []);
      pending = put net.pending (administrator decl) None;
    }

-- it rises, and falls as it writes the record of its rise
abbrev pub after_vain_rise : Net → ℕ → Option Record → Net
after_vain_rise net a back =
    record net {
      written = net.written ++ commits_in back;
      records = put net.records a (net.records a ++ option_to_list back);
      pending = put net.pending a (Some Life);
    }

-- the messages of a turn whose record isn't written: where the disk failed, and where it stopped
abbrev pub AreFailedSends : Turn → List Posting → Type 0
AreFailedSends turn sends = (sends ≡ turn.failed_sends) ⊎ (sends ≡ [])

-- the nets that may come about
pub data Reaches (decl : Declaration) : Net → Type 0 where
  begins : Reaches decl (first_net decl)
  serves : (a : ℕ) (given : Input) (net : Net) → Reaches decl net → is_site decl a ≡ true → net.up a ≡ true
      → MayCome net a given → Reaches decl (after_site net a (site_takes decl (net.sites a) given))
  takes : (a : ℕ) (given : Input) (net : Net) → Reaches decl net → is_client decl a ≡ true → net.up a ≡ true
      → MayCome net a given → MayCommand decl (net.clients a) given
      → Reaches decl (after_client net a (client_takes decl (net.clients a) given))
  administers : (given : Input) (net : Net) → Reaches decl net → net.up (administrator decl) ≡ true
      → MayCome net (administrator decl) given → MayAdminister decl given
      → Reaches decl (after_admin decl net (admin_takes decl net.admin given))
  -- an actor that is up falls
  site_falls : (a : ℕ) (net : Net) → Reaches decl net → is_site decl a ≡ true → net.up a ≡ true
      → Reaches decl (after_fall net a None [])
  client_falls : (a : ℕ) (net : Net) → Reaches decl net → is_client decl a ≡ true → net.up a ≡ true
      → Reaches decl (after_fall net a None [])
  admin_falls : (net : Net) → Reaches decl net → net.up (administrator decl) ≡ true
      → Reaches decl (after_fall net (administrator decl) None [])
  -- or it falls in a turn whose record isn't written
  site_fails : (a : ℕ) (given : Input) (written : Record) (sends : List Posting) (net : Net) → Reaches decl net
      → is_site decl a ≡ true → net.up a ≡ true → MayCome net a given
      → (site_takes decl (net.sites a) given).turn.write ≡ Some written
      → AreFailedSends (site_takes decl (net.sites a) given).turn sends
      → Reaches decl (after_fall net a (Some written) sends)
  client_fails : (a : ℕ) (given : Input) (written : Record) (sends : List Posting) (net : Net) → Reaches decl net
      → is_client decl a ≡ true → net.up a ≡ true → MayCome net a given → MayCommand decl (net.clients a) given
      → (client_takes decl (net.clients a) given).turn.write ≡ Some written
      → AreFailedSends (client_takes decl (net.clients a) given).turn sends
      → Reaches decl (after_fall net a (Some written) sends)
  admin_fails : (given : Input) (written : Record) (sends : List Posting) (net : Net) → Reaches decl net
      → net.up (administrator decl) ≡ true → MayCome net (administrator decl) given → MayAdminister decl given
      → (admin_takes decl net.admin given).turn.write ≡ Some written
      → AreFailedSends (admin_takes decl net.admin given).turn sends
      → Reaches decl (after_fall net (administrator decl) (Some written) sends)
  -- one that is down rises
  site_rises_up : (a : ℕ) (back : Option Record) (net : Net) → Reaches decl net → is_site decl a ≡ true
      → net.up a ≡ false → IsGivenBack net a back → Reaches decl (after_site_rise decl net a back)
  client_rises_up : (a : ℕ) (back : Option Record) (net : Net) → Reaches decl net → is_client decl a ≡ true
      → net.up a ≡ false → IsGivenBack net a back → Reaches decl (after_client_rise decl net a back)
  admin_rises_up : (back : Option Record) (net : Net) → Reaches decl net → net.up (administrator decl) ≡ false
      → IsGivenBack net (administrator decl) back → Reaches decl (after_admin_rise decl net back)
  -- or rises and falls at once
  site_rises_in_vain : (a : ℕ) (back : Option Record) (net : Net) → Reaches decl net → is_site decl a ≡ true
      → net.up a ≡ false → IsGivenBack net a back → Reaches decl (after_vain_rise net a back)
  client_rises_in_vain : (a : ℕ) (back : Option Record) (net : Net) → Reaches decl net → is_client decl a ≡ true
      → net.up a ≡ false → IsGivenBack net a back → Reaches decl (after_vain_rise net a back)
  admin_rises_in_vain : (back : Option Record) (net : Net) → Reaches decl net → net.up (administrator decl) ≡ false
      → IsGivenBack net (administrator decl) back → Reaches decl (after_vain_rise net (administrator decl) back)
