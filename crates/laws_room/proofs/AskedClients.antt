-- The sites that a client asked are sites, before each input that it takes.
use Rattle.std.proofs.Common.{◌≡◌, ℕ, ◌-◌, Bool, true, false, List, [], ◌∷◌, ◌++◌, refl, sym, ap, ◌∙◌, subst, arith}
use Rattle.std.proofs.lemmas.List.Sums.{fold-append}
use Rattle.qc_decl.specs.Vocabulary.{IsAccepted, is_client, is_site}
use Rattle.qc_decl.specs.declared.declaration.Declaration.{Declaration}
use Rattle.qc_msg.specs.declared.message.Message.{Message}
use Rattle.qc_msg.specs.declared.message.Message.TheVariants as messages
use Rattle.qc_msg.specs.declared.step.Input.{Input}
use Rattle.qc_msg.specs.declared.step.Input.TheVariants as inputs
use Rattle.qc_msg.specs.declared.turn.Turn.{Turn}
use Rattle.qc_msg.specs.Vocabulary.{Deed, Takes, turn_deeds}
use Rattle.qc_client.specs.declared.client.Client.{Client}
use Rattle.qc_client.specs.Vocabulary.{ClientMove, client_after, client_does, client_takes, heard, sent}
use Rattle.qc_core.specs.Vocabulary.{Acts, IsFrom, IsLawful, MayTake, is_running, posts, starts, takes}
use Rattle.qc_core.proofs.ActorSent.{known, lawful_turn, sent_at_once}
use Rattle.qc_core.proofs.ClientReaches.{AskedFit, client_reach, new_asked, sent_asked}
use Rattle.qc_core.proofs.ClientStands.{Stands}

-- from whom an input comes changes nothing of what becomes of a client

abbrev from_first : Input → Input
from_first (inputs.Called command) = inputs.Called command
from_first (inputs.Got e) = inputs.Got (record e { from = 0 })
from_first (inputs.Lost number) = inputs.Lost number

is_from_first : (g : Input) → IsFrom (from_first g)
is_from_first (inputs.Called command) = tt
is_from_first (inputs.Got e) = omega arith
is_from_first (inputs.Lost number) = tt

same_client : (decl : Declaration) (c : Client) (g : Input)
    → (client_takes decl c (from_first g)).client ≡ (client_takes decl c g).client
same_client decl c (inputs.Called command) = refl
same_client decl c (inputs.Lost number) = refl
same_client decl c (inputs.Got e) =
    by e.message
  where
    by : (m : Message) → (heard decl c 0 e.number m).client ≡ (heard decl c e.from e.number m).client
    by (messages.Request tx epoch life want) = refl
    by (messages.Answer to answer) = refl
    by (messages.Decision tx verdict) = refl
    by (messages.Inquiry tx) = refl
    by (messages.Ask tx) = refl
    by (messages.Close epoch) = refl
    by (messages.Install start) = refl

-- a client with an open input

pub record Asking (decl : Declaration) (k : ℕ) (ds : List Deed) : Type 0 where
  pub before : List Deed
  pub input : Input
  pub deeds_are : ds ≡ before ++ Takes input ∷ []
  pub asked : AskedFit decl.sites (client_after decl k before).client
  pub stood : Stands decl (is_running before) (client_after decl k before).client
  pub might : MayTake before input

abbrev pub move_of : (decl : Declaration) (k : ℕ) (ds : List Deed) → Asking decl k ds → ClientMove
move_of decl k ds o = client_takes decl (client_after decl k o.before).client o.input

-- its turn is that of this move, which its messages' numbers change
pub record IsPosted (decl : Declaration) (k first : ℕ) (ds : List Deed) (move : ClientMove) (turn : Turn)
    : Type 0 where
  pub turn_is : move.turn ≡ turn
  pub after : (client_after decl k (ds ++ turn_deeds first turn)).client ≡ sent move.client first

module _ (decl : Declaration) (accepted : IsAccepted decl) (a : ℕ) (no_site : is_site decl a ≡ false)
    (client : is_client decl a ≡ true) where
  abbrev AskedAt : List Deed → Bool → Type 0
  AskedAt ds false = AskedFit decl.sites (client_after decl (a - decl.sites) ds).client
  AskedAt ds true = Asking decl (a - decl.sites) ds

  pub posted : (ds : List Deed) (o : Asking decl (a - decl.sites) ds) (first : ℕ) (turn : Turn)
      → IsLawful decl a ds turn
      → IsPosted decl (a - decl.sites) first ds (move_of decl (a - decl.sites) ds o) turn
  posted ds o first turn lawful = record {
    turn_is = same;
    after = subst (λ (t : Turn). (client_after decl (a - decl.sites) (ds ++ turn_deeds first t)).client
        ≡ sent move.client first) same
        (subst (λ (xs : List Deed). (client_after decl (a - decl.sites) (xs ++ turn_deeds first move.turn)).client
        ≡ sent move.client first) (sym o.deeds_are)
        (sent_at_once decl (a - decl.sites) o.before o.input first accepted.has_site accepted.sites o.stood o.might));
  } where
    move : ClientMove
    move = move_of decl (a - decl.sites) ds o

    now : client_after decl (a - decl.sites) ds ≡ move
    now = ap (client_after decl (a - decl.sites)) o.deeds_are
        ∙ fold-append (client_does decl) _ o.before (Takes o.input ∷ [])

    same : move.turn ≡ turn
    same = sym (ap (λ (m : ClientMove). m.turn) now) ∙ lawful_turn decl a ds turn no_site client lawful

  pub client_asked : (ds : List Deed) (b : Bool) (n : ℕ) → Acts decl a ds b n → AskedAt ds b
  client_asked ds b n starts = new_asked decl.sites (a - decl.sites)
  client_asked ds b n (takes before g m acts may) = record {
    before = before;
    input = g;
    deeds_are = refl;
    asked = client_asked before false m acts;
    stood = known decl a before false m accepted.has_site accepted.sites no_site client acts;
    might = may;
  }
  client_asked ds b n (posts before turn m first acts above lawful) = ends (client_asked before true m acts)
    where
      ends : Asking decl (a - decl.sites) before
          → AskedFit decl.sites (client_after decl (a - decl.sites) (before ++ turn_deeds first turn)).client
      ends o =
          subst (AskedFit decl.sites) (sym (posted before o first turn lawful).after)
          (sent_asked decl.sites (move_of decl (a - decl.sites) before o).client first
          (subst (AskedFit decl.sites)
          (same_client decl (client_after decl (a - decl.sites) o.before).client o.input)
          (client_reach decl accepted (client_after decl (a - decl.sites) o.before).client (from_first o.input)
          (is_from_first o.input) o.stood.front o.asked).asked))

  -- once an input is taken
  abbrev pub asking : (before : List Deed) (g : Input) (m : ℕ) → Acts decl a before false m → MayTake before g
      → Asking decl (a - decl.sites) (before ++ Takes g ∷ [])
  asking before g m acts may = record {
    before = before;
    input = g;
    deeds_are = refl;
    asked = client_asked before false m acts;
    stood = known decl a before false m accepted.has_site accepted.sites no_site client acts;
    might = may;
  }
