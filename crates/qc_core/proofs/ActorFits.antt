-- What an actor's calls rely on, in a run: it fits, and its turns are short.
use Rattle.std.proofs.Common.{◌≡◌, ℕ, ◌-◌, ◌^◌, ◌<◌, ◌≤◌, Bool, true, false, List, [], ◌∷◌, ◌++◌, fold, Option, Some}
use Rattle.std.proofs.Common.{None, refl, sym, ap, ◌∙◌, subst, arith}
use Rattle.std.specs.List.{AllByRecursion as Every}
use Rattle.std.proofs.lemmas.List.Sums.{fold-append}
use Rattle.qc_decl.specs.declared.declaration.Declaration.{Declaration}
use Rattle.qc_decl.specs.Vocabulary.{IsAccepted, administrator, is_client, is_site}
use Rattle.qc_commit.specs.declared.desk.Voting.{Voting}
use Rattle.qc_commit.specs.Conduct as desks
use Rattle.qc_commit.specs.Fits as votes
use Rattle.qc_front.specs.declared.doing.Doing.{Doing}
use Rattle.qc_front.specs.declared.doing.Doing.TheVariants.{Idle, Reading, Appending}
use Rattle.qc_front.specs.Conduct as fronts
use Rattle.qc_front.specs.Fits as rounds
use Rattle.qc_front.proofs.Fitting.{front_ends_fit}
use Rattle.qc_msg.specs.declared.step.Input.{Input}
use Rattle.qc_msg.specs.declared.turn.Turn.{Turn}
use Rattle.qc_msg.specs.Vocabulary.{Deed, Falls, Rises, Sends, Takes, Tells, Writes, turn_deeds}
use Rattle.qc_client.specs.declared.client.Client.{Client}
use Rattle.qc_client.specs.Vocabulary.{ClientFits, ClientMove, client_after, client_does, client_takes, sent, sent_by}
use Rattle.qc_site.specs.Vocabulary.{SiteMove, SiteState, site_after, site_does, site_takes}
use Rattle.qc_core.specs.declared.actor.Actor.TheVariants as actor
use Rattle.qc_core.specs.Vocabulary.{ActorFits, ActorMove, ActorWithin, Acts, AsksFew, IsFrom, IsFromActor, IsShort}
use Rattle.qc_core.specs.Vocabulary.{MayTake, actor_after, actor_takes, is_running, posts, starts, takes}
use Rattle.qc_core.proofs.ActorLaws.{at_client, at_site, other_client}
use Rattle.qc_core.proofs.ActorSent.{known, lawful_turn, sent_at_once}
use Rattle.qc_core.proofs.ClientReaches.{AskedFit, client_reach, new_asked, sent_asked}
use Rattle.qc_core.proofs.ClientLands.{lands}
use Rattle.qc_core.proofs.ClientStands.{Lands, Stands}
use Rattle.qc_core.proofs.SiteReaches.{IsOfClients, site_reach}
use Rattle.qc_core.proofs.Steady.{acts_steady}

-- few sites are asked, before the numbers of a turn's messages are known as after

pub few_numbered : (d : Doing) (first : ℕ) → rounds.AsksFew (fronts.numbered d first) → rounds.AsksFew d
few_numbered Idle first few = tt
few_numbered (Reading object inv calls round) first few = few
few_numbered (Appending object inv event calls round) first few = few

pub few_sent : (c : Client) (first : ℕ) → votes.AsksFew (sent c first).desk.voting
    → rounds.AsksFew (sent c first).front.doing → AsksFew (actor.Client c)
few_sent c first = by c.desk.voting refl
  where
    in_desk : (o : Option Voting) → c.desk.voting ≡ o → votes.AsksFew (desks.sent_in c.desk o first).voting
        → votes.AsksFew c.desk.voting
    in_desk None is few = subst votes.AsksFew (sym is) tt
    in_desk (Some v) is few = subst votes.AsksFew (sym is) few

    by : (o : Option Voting) → c.desk.voting ≡ o → votes.AsksFew (sent_by c o first).desk.voting
        → rounds.AsksFew (sent_by c o first).front.doing → AsksFew (actor.Client c)
    by None is desk front = (desk, few_numbered c.front.doing first front)
    by (Some v) is desk front = (in_desk c.desk.voting refl desk, front)

round_few : (decl : Declaration) (running : Bool) (c : Client) → IsAccepted decl → Stands decl running c
    → rounds.AsksFew c.front.doing
round_few decl running c accepted st =
    (front_ends_fit decl (record c.front { count = 0 }) accepted st.front (omega arith)).few

-- a client that stands fits, where its clocks and its count are below the ends

client_fits : (decl : Declaration) (running : Bool) (c : Client) (n : ℕ) → IsAccepted decl → n < 2 ^ 31
    → Stands decl running c → ActorWithin n (actor.Client c) → ClientFits c
client_fits decl running c n accepted low st within =
    let count : c.front.count ≤ n = within.0 in
    let front_clock : c.front.clock.value ≤ n = within.1 in
    let desk_clock : c.desk.clock.value ≤ n = within.2 in
    record {
      front = front_ends_fit decl c.front accepted st.front (omega arith);
      clock = omega arith;
      desk = record { clock = omega arith; few = st.few };
    }

-- a site fits, where its life is below the end

site_fits : (s : SiteState) (n : ℕ) → n < 2 ^ 31 → ActorWithin n (actor.Site s) → ActorFits (actor.Site s)
site_fits s n low within = let life : s.life ≤ n = within in omega arith

pub actor_fits : (decl : Declaration) (a : ℕ) (ds : List Deed) (m n : ℕ) → IsAccepted decl → a < administrator decl
    → Acts decl a ds false m → n < 2 ^ 31 → ActorWithin n (actor_after decl a ds).actor
    → ActorFits (actor_after decl a ds).actor
actor_fits decl a ds m n accepted below acts low = by (is_site decl a) refl
  where
    by : (b : Bool) → is_site decl a ≡ b → ActorWithin n (actor_after decl a ds).actor
        → ActorFits (actor_after decl a ds).actor
    by true is within =
        subst (λ (v : ActorMove). ActorFits v.actor) (sym (at_site decl a ds (acts_steady decl a ds false m acts) is))
        (site_fits (site_after decl a ds).site n low
        (subst (λ (v : ActorMove). ActorWithin n v.actor)
        (at_site decl a ds (acts_steady decl a ds false m acts) is) within))
    by false is within =
        subst (λ (v : ActorMove). ActorFits v.actor)
        (sym (at_client decl a ds (acts_steady decl a ds false m acts) is (other_client decl a below is)))
        (client_fits decl (is_running ds) (client_after decl (a - decl.sites) ds).client n accepted low
        (known decl a ds false m accepted.has_site accepted.sites is (other_client decl a below is) acts)
        (subst (λ (v : ActorMove). ActorWithin n v.actor)
        (at_client decl a ds (acts_steady decl a ds false m acts) is (other_client decl a below is)) within))

-- after an input it asked few sites
pub actor_asks_few : (decl : Declaration) (a : ℕ) (ds : List Deed) (m : ℕ) (g : Input) → IsAccepted decl
    → a < administrator decl → Acts decl a ds false m → MayTake ds g
    → AsksFew (actor_takes decl (actor_after decl a ds).actor g).actor
actor_asks_few decl a ds m g accepted below acts may = by (is_site decl a) refl
  where
    by : (b : Bool) → is_site decl a ≡ b → AsksFew (actor_takes decl (actor_after decl a ds).actor g).actor
    by true is = subst (λ (v : ActorMove). AsksFew (actor_takes decl v.actor g).actor)
        (sym (at_site decl a ds (acts_steady decl a ds false m acts) is)) tt
    by false is =
        let st : Stands decl (is_running ds) (client_after decl (a - decl.sites) ds).client =
        known decl a ds false m accepted.has_site accepted.sites is (other_client decl a below is) acts in
        let on : Lands decl _ 0 (client_takes decl (client_after decl (a - decl.sites) ds).client g) =
        lands decl ds (client_after decl (a - decl.sites) ds).client g 0 accepted.has_site accepted.sites st may in
        subst (λ (v : ActorMove). AsksFew (actor_takes decl v.actor g).actor)
        (sym (at_client decl a ds (acts_steady decl a ds false m acts) is (other_client decl a below is)))
        (few_sent (client_takes decl (client_after decl (a - decl.sites) ds).client g).client 0 on.stands.few
        (round_few decl _ _ accepted on.stands))

-- a site's turns are short

every_first : (xs ys : List Deed) → Every IsFromActor (xs ++ ys) → Every IsFromActor xs
every_first [] ys all = tt
every_first (x ∷ xs) ys all = (all.0, every_first xs ys all.1)

every_last : (xs ys : List Deed) → Every IsFromActor (xs ++ ys) → Every IsFromActor ys
every_last [] ys all = all
every_last (x ∷ xs) ys all = every_last xs ys all.1

site_clients : (decl : Declaration) → IsAccepted decl → (m : SiteMove) (ds : List Deed) → Every IsFromActor ds
    → IsOfClients m.site → IsOfClients (fold (site_does decl) m ds).site
site_clients decl accepted m [] from clients = clients
site_clients decl accepted m (Takes g ∷ ds) from clients =
    site_clients decl accepted (site_takes decl m.site g) ds from.1
    (site_reach decl accepted m.site g from.0 clients).clients
site_clients decl accepted m (Writes written ∷ ds) from clients = site_clients decl accepted m ds from.1 clients
site_clients decl accepted m (Sends number to message ∷ ds) from clients =
    site_clients decl accepted m ds from.1 clients
site_clients decl accepted m (Tells reply ∷ ds) from clients = site_clients decl accepted m ds from.1 clients
site_clients decl accepted m (Falls cause pending ∷ ds) from clients = site_clients decl accepted m ds from.1 clients
site_clients decl accepted m (Rises records ∷ ds) from clients = site_clients decl accepted m ds from.1 clients

-- so are a client's: the sites that it asked are sites

record IsOpenFor (decl : Declaration) (k : ℕ) (ds : List Deed) : Type 0 where
  pub before : List Deed
  pub input : Input
  pub deeds_are : ds ≡ before ++ Takes input ∷ []
  pub from : IsFrom input
  pub asked : AskedFit decl.sites (client_after decl k before).client
  pub stood : Stands decl (is_running before) (client_after decl k before).client
  pub might : MayTake before input

abbrev Fits : Declaration → ℕ → List Deed → Bool → Type 0
Fits decl k ds false = AskedFit decl.sites (client_after decl k ds).client
Fits decl k ds true = IsOpenFor decl k ds

client_asked : (decl : Declaration) (a : ℕ) (ds : List Deed) (b : Bool) (n : ℕ) → IsAccepted decl
    → is_site decl a ≡ false → is_client decl a ≡ true → Acts decl a ds b n → Every IsFromActor ds
    → Fits decl (a - decl.sites) ds b
client_asked decl a ds b n accepted no_site client starts from = new_asked decl.sites (a - decl.sites)
client_asked decl a ds b n accepted no_site client (takes before g m acts may) from = record {
  before = before;
  input = g;
  deeds_are = refl;
  from = (every_last before (Takes g ∷ []) from).0;
  asked = client_asked decl a before false m accepted no_site client acts (every_first before (Takes g ∷ []) from);
  stood = known decl a before false m accepted.has_site accepted.sites no_site client acts;
  might = may;
}
client_asked decl a ds b n accepted no_site client (posts before turn m first acts above lawful) from =
    ends (client_asked decl a before true m accepted no_site client acts
    (every_first before (turn_deeds first turn) from))
  where
    ends : IsOpenFor decl (a - decl.sites) before
        → AskedFit decl.sites (client_after decl (a - decl.sites) (before ++ turn_deeds first turn)).client
    ends o =
        let now : client_after decl (a - decl.sites) before ≡ client_takes decl
        (client_after decl (a - decl.sites) o.before).client o.input =
        ap (client_after decl (a - decl.sites)) o.deeds_are
        ∙ fold-append (client_does decl) _ o.before (Takes o.input ∷ []) in
        let same : (client_takes decl (client_after decl (a - decl.sites) o.before).client o.input).turn ≡ turn =
        sym (ap (λ (m : ClientMove). m.turn) now) ∙ lawful_turn decl a before turn no_site client lawful in
        subst (λ (t : Turn). AskedFit decl.sites
        (client_after decl (a - decl.sites) (before ++ turn_deeds first t)).client) same
        (subst (λ (xs : List Deed). AskedFit decl.sites
        (client_after decl (a - decl.sites) (xs ++ turn_deeds first
        (client_takes decl (client_after decl (a - decl.sites) o.before).client o.input).turn)).client)
        (sym o.deeds_are)
        (subst (AskedFit decl.sites) (sym (sent_at_once decl
        (a - decl.sites) o.before o.input first accepted.has_site accepted.sites o.stood o.might))
        (sent_asked decl.sites (client_takes decl (client_after decl (a - decl.sites) o.before).client o.input).client
        first
        (client_reach decl accepted (client_after decl (a - decl.sites) o.before).client o.input o.from o.stood.front
        o.asked).asked)))

pub turns_are_short : (decl : Declaration) (a : ℕ) (ds : List Deed) (m : ℕ) (g : Input) → IsAccepted decl
    → a < administrator decl → Acts decl a ds false m → Every IsFromActor ds → IsFrom g
    → IsShort (actor_takes decl (actor_after decl a ds).actor g).turn
turns_are_short decl a ds m g accepted below acts from here = by (is_site decl a) refl
  where
    by : (b : Bool) → is_site decl a ≡ b → IsShort (actor_takes decl (actor_after decl a ds).actor g).turn
    by true is =
        subst (λ (v : ActorMove). IsShort (actor_takes decl v.actor g).turn)
        (sym (at_site decl a ds (acts_steady decl a ds false m acts) is))
        (site_reach decl accepted (site_after decl a ds).site g here
        (site_clients decl accepted _ ds from (record { held = tt; prepared = tt }))).turn
    by false is =
        subst (λ (v : ActorMove). IsShort (actor_takes decl v.actor g).turn)
        (sym (at_client decl a ds (acts_steady decl a ds false m acts) is (other_client decl a below is)))
        (client_reach decl accepted (client_after decl (a - decl.sites) ds).client g here
        (known decl a ds false m accepted.has_site accepted.sites is (other_client decl a below is) acts).front
        (client_asked decl a ds false m accepted is (other_client decl a below is) acts from)).turn
