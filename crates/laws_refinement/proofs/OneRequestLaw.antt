-- No two open requests of a client are for one site, in every net that may come about.
use Rattle.std.proofs.Common.{◌≡◌, ℕ, ◌-◌, List, ◌++◌, length, Option, Some, None, refl, sym, subst}
use Rattle.std.specs.Prelude.{option_to_list}
use Rattle.std.proofs.lemmas.List.{append-nil}
use Rattle.qc_decl.specs.declared.declaration.Declaration.{Declaration}
use Rattle.qc_msg.specs.declared.call.Call.{Call}
use Rattle.qc_msg.specs.declared.message.Answer.{Answer}
use Rattle.qc_msg.specs.declared.message.Message.{Message}
use Rattle.qc_msg.specs.declared.message.Message.TheVariants as messages
use Rattle.qc_msg.specs.declared.step.Input.{Input}
use Rattle.qc_msg.specs.declared.step.Input.TheVariants.{Called, Got, Lost}
use Rattle.qc_commit.specs.declared.desk.Voting.{Voting}
use Rattle.qc_front.specs.declared.doing.Doing.{Doing}
use Rattle.qc_front.specs.Conduct as fronts
use Rattle.qc_front.specs.Vocabulary.{AreApart, calls_in, sites_called}
use Rattle.qc_client.specs.Vocabulary.{answered_by, client_takes, heard}
use Rattle.qc_client.specs.declared.client.Client.{Client}
use Rattle.qc_recover.specs.Vocabulary.{client_rises}
use Rattle.laws_refinement.specs.Vocabulary.{MayCommand, Net, Reaches, calls_voting, open_requests, sent_all}
use Rattle.laws_refinement.specs.Net as nets
use Rattle.laws_refinement.proofs.Machine.{put_one}
use Rattle.laws_refinement.proofs.OneRequests.{Stands, VotesStand, called_stands, front_turn, vote_stands}
use Rattle.laws_refinement.proofs.Standing.{front_ends_stand}
use Rattle.qc_front.proofs.OpenSites.{begun_calls}

both_different : (d : Doing) (o : Option Voting) → AreApart (sites_called (calls_in d)) → VotesStand d o
    → AreApart (sites_called (calls_in d ++ calls_voting o))
both_different d None different s =
    subst (λ (cs : List Call). AreApart (sites_called cs)) (sym (append-nil (calls_in d))) different
both_different d (Some v) different s =
    subst (λ (x : Doing). AreApart (sites_called (calls_in x ++ v.calls))) (sym s.0) s.1

module _ (decl : Declaration) where
  answered_stands : (c : Client) (number : ℕ) (answer : Option Answer) (n : ℕ) (o : Option Voting)
      → c.desk.voting ≡ o → VotesStand c.front.doing o
      → Stands (sent_all (answered_by decl c o number answer).client n
      (answered_by decl c o number answer).turn.sends)
  answered_stands c number answer n None is s = front_turn decl c (fronts.takes decl c.front number answer) n is
  answered_stands c number answer n (Some v) is s =
      vote_stands decl c c.desk.voting number answer n refl
      (subst (λ (o : Option Voting). VotesStand c.front.doing o) (sym is) s)

  heard_stands : (c : Client) (from number : ℕ) (message : Message) (n : ℕ) → Stands c
      → Stands (sent_all (heard decl c from number message).client n (heard decl c from number message).turn.sends)
  heard_stands c from number (messages.Request tx epoch life want) n s = s
  heard_stands c from number (messages.Answer to answer) n s =
      answered_stands c to (Some answer) n c.desk.voting refl s
  heard_stands c from number (messages.Decision tx verdict) n s = s
  heard_stands c from number (messages.Inquiry tx) n s = s
  heard_stands c from number (messages.Ask tx) n s = s
  heard_stands c from number (messages.Close epoch) n s = s
  heard_stands c from number (messages.Install start) n s = s

  takes_stands : (c : Client) (given : Input) (n : ℕ) → MayCommand decl c given → Stands c
      → Stands (sent_all (client_takes decl c given).client n (client_takes decl c given).turn.sends)
  takes_stands c (Called command) n may s = called_stands decl c command n may.0
  takes_stands c (Got envelope) n may s = heard_stands c envelope.from envelope.number envelope.message n s
  takes_stands c (Lost number) n may s = answered_stands c number None n c.desk.voting refl s

  each_stands : (net : Net) → Reaches decl net → (a : ℕ) → Stands (net.clients a)
  each_stands net nets.begins a = tt
  each_stands net (nets.serves b given before r site up came) a = each_stands before r a
  each_stands net (nets.takes b given before r client up came ready) a =
      put_one (λ (k : ℕ) (c : Client). Stands c) before.clients b
      (sent_all (client_takes decl (before.clients b) given).client (length before.mail)
      (client_takes decl (before.clients b) given).turn.sends) a
      (takes_stands (before.clients b) given (length before.mail) ready (each_stands before r b))
      (λ other. each_stands before r a)
  each_stands net (nets.administers given before r up came named) a = each_stands before r a
  each_stands net (nets.site_falls b before r site up) a = each_stands before r a
  each_stands net (nets.client_falls b before r client up) a = each_stands before r a
  each_stands net (nets.admin_falls before r up) a = each_stands before r a
  each_stands net (nets.site_fails b given written sends before r site up came wrote failed) a = each_stands before r a
  each_stands net (nets.client_fails b given written sends before r client up came ready wrote failed) a =
      each_stands before r a
  each_stands net (nets.admin_fails given written sends before r up came named wrote failed) a = each_stands before r a
  each_stands net (nets.site_rises_up b back before r site down given) a = each_stands before r a
  each_stands net (nets.client_rises_up b back before r client down given) a =
      put_one (λ (k : ℕ) (c : Client). Stands c) before.clients b
      (client_rises (b - decl.sites) (before.records b ++ option_to_list back)).client a tt
      (λ other. each_stands before r a)
  each_stands net (nets.admin_rises_up back before r down given) a = each_stands before r a
  each_stands net (nets.site_rises_in_vain b back before r site down given) a = each_stands before r a
  each_stands net (nets.client_rises_in_vain b back before r client down given) a = each_stands before r a
  each_stands net (nets.admin_rises_in_vain back before r down given) a = each_stands before r a

  pub clients_have_one_open_request_at_a_site : (net : Net) → Reaches decl net → (a : ℕ)
      → AreApart (sites_called (open_requests (net.clients a)))
  clients_have_one_open_request_at_a_site net r a =
      both_different (net.clients a).front.doing (net.clients a).desk.voting
      (begun_calls decl (net.clients a).front.client (net.clients a).front.transaction (net.clients a).front.doing
      (front_ends_stand decl net r a).holds) (each_stands net r a)
