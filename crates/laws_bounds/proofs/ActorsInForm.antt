-- An actor in form goes on so for each input, each post and each rise.
use Rattle.std.proofs.Common.{◌≡◌, ℕ, ◌-◌, ◌^◌, ◌<◌, ◌≤◌, Bool, true, false, List, [], ◌∷◌, fold, map, length}
use Rattle.std.proofs.Common.{take, Option, inl, inr, refl, sym, subst, arith}
use Rattle.std.specs.Prelude.{option_to_list}
use Rattle.std.specs.List.{AllByRecursion as Every}
use Rattle.qc_core.proofs.AdminWrites.{admin_written}
use Rattle.qc_decl.proofs.Clients.{client_below}
use Rattle.qc_epoch.specs.Vocabulary.{admin_takes}
use Rattle.qc_client.specs.Vocabulary.{client_takes}
use Rattle.qc_core.specs.declared.actor.Actor.{Actor}
use Rattle.qc_core.specs.declared.actor.Actor.TheVariants.{Site, Client, Admin, Down}
use Rattle.qc_core.specs.Vocabulary.{ActorMove, actor_does, actor_rises, actor_sends, actor_takes, down_takes, moved}
use Rattle.qc_core.specs.Vocabulary.{new_actor}
use Rattle.qc_core.proofs.Written.{client_written}
use Rattle.qc_decl.specs.Vocabulary.{IsAccepted, actors, administrator, is_client, is_site}
use Rattle.qc_decl.specs.declared.declaration.Declaration.{Declaration}
use Rattle.qc_entry.specs.declared.record.Prepared.{Prepared}
use Rattle.qc_msg.specs.declared.message.Message.{Message}
use Rattle.qc_msg.specs.declared.record.Record.{Record}
use Rattle.qc_msg.specs.declared.step.Input.{Input}
use Rattle.qc_msg.specs.declared.step.Input.TheVariants as inputs
use Rattle.qc_msg.specs.declared.turn.Turn.{Turn}
use Rattle.qc_msg.specs.Vocabulary.{Deed, Falls, Rises, Sends, Takes, Tells, Writes, quiet}
use Rattle.qc_recover.specs.Vocabulary.{kept_by, most_inquiries}
use Rattle.qc_site.specs.Vocabulary.{in_order, site_takes}
use Rattle.laws_bounds.specs.Vocabulary.{CountsWithin}
use Rattle.laws_bounds.proofs.ActorsWithin.{IsOfPost}
use Rattle.laws_bounds.proofs.AdminsInForm.{AdminInForm, AdminMoveInForm, GivenToldIn, admin_risen_form}
use Rattle.laws_bounds.proofs.AdminsInForm.{admin_sends_form, admin_takes_form}
use Rattle.qc_core.proofs.ByNumber.{new_by, rises_by}
use Rattle.laws_bounds.proofs.ClientsInForm.{ClientInForm, ClientMoveInForm, client_takes_form, sent_form}
use Rattle.laws_bounds.proofs.ClientsRisen.{client_risen_form}
use Rattle.laws_bounds.proofs.Declared.{answers_in_form}
use Rattle.laws_bounds.proofs.DesksInForm.{OwnCommitInForm, OwnWriteInForm}
use Rattle.laws_bounds.proofs.Forms.{CommitInForm, RecordInForm, SendsInForm, TakenInForm, WriteInForm}
use Rattle.laws_bounds.proofs.SitesInForm.{SiteMoveInForm}
use Rattle.laws_bounds.proofs.SitesRisen.{inquiries_form, site_risen_form}
use Rattle.laws_bounds.proofs.SitesTake.{SiteStands, site_takes_form, site_takes_sorted}

module _ (decl : Declaration) where
  abbrev pub StateInForm : ℕ → Actor → Type 0
  StateInForm a (Site s) = SiteStands s
  StateInForm a (Client c) = (is_client decl a ≡ true) × ClientInForm decl (a - decl.sites) c
  StateInForm a (Admin m) = AdminInForm m
  StateInForm a Down = Unit {0}

  pub record TurnInForm (a : ℕ) (turn : Turn) : Type 0 where
    pub sends : SendsInForm turn.sends
    pub failed_sends : SendsInForm turn.failed_sends
    pub write : a < actors decl → Every WriteInForm (option_to_list turn.write)

  pub record MoveInForm (a : ℕ) (m : ActorMove) : Type 0 where
    pub state : StateInForm a m.actor
    pub turn : TurnInForm a m.turn

  quiet_form : (a : ℕ) → TurnInForm a quiet
  quiet_form a = record { sends = tt; failed_sends = tt; write = λ low. tt }

  pub down_form : (a : ℕ) → MoveInForm a (moved Down quiet)
  down_form a = record { state = tt; turn = quiet_form a }

  pub new_form : (a : ℕ) → MoveInForm a (moved (new_actor decl a) quiet)
  new_form a = record { state = by (is_site decl a) (is_client decl a) refl; turn = quiet_form a }
    where
      by : (site client : Bool) → is_client decl a ≡ client → StateInForm a (new_by decl a site client)
      by false false is = record { decided = tt; doing = tt }
      by true client is = record {
        form =
            record { epoch = (omega arith, omega arith); began = tt; log = tt; arrived = tt; held = tt; prepared = tt };
        sorted = record {
          began = tt;
          log = tt;
          recorded = tt;
          held = record { single = tt; full = tt; sorted = tt };
          prepared = tt;
        };
      }
      by false true is = (
        is,
        record {
          front = record { client_is = refl; life = (omega arith, omega arith); begun = tt; doing = tt };
          desk = record { client_is = refl; voting = tt; commits = tt };
        },
      )

  -- one input

  down_taken : (a : ℕ) (g : Input) → TurnInForm a (down_takes g)
  down_taken a (inputs.Called command) = record { sends = tt; failed_sends = tt; write = λ low. tt }
  down_taken a (inputs.Got e) = quiet_form a
  down_taken a (inputs.Lost number) = quiet_form a

  client_writes : decl.clients ≤ 16 → (a : ℕ) (w : Option Record) → is_client decl a ≡ true
      → OwnWriteInForm (a - decl.sites) w → Every WriteInForm (option_to_list w)
  client_writes few a w is (inl none) =
      subst (λ (o : Option Record). Every WriteInForm (option_to_list o)) (sym none) tt
  client_writes few a w is (inr one) =
      subst (λ (o : Option Record). Every WriteInForm (option_to_list o)) (sym one.1) ((own, tt), tt)
    where
      own : CommitInForm one.0
      own =
          let its : OwnCommitInForm (a - decl.sites) one.0 = one.2 in
          let client : one.0.tx.client ≡ a - decl.sites = its.client_is in
          let low : a < administrator decl = client_below decl a is in
          let below : one.0.tx.client ≤ 15 = omega (arith, client, low, few) in
          record {
            stamp = its.stamp;
            tx = record { client = below; life = its.ordinals.life; number = its.ordinals.number };
            ops = its.ops;
            few = its.few;
          }

  -- of the administrator: what a client tells him is of the transaction that it was asked about
  abbrev pub IsToldFor : Actor → Input → Type 0
  IsToldFor (Site s) g = Unit {0}
  IsToldFor (Client c) g = Unit {0}
  IsToldFor (Admin m) g = GivenToldIn m g
  IsToldFor Down g = Unit {0}

  pub takes_form : (accepted : IsAccepted decl) (a n : ℕ) (v : Actor) (g : Input) → StateInForm a v
      → CountsWithin n v → n < 2 ^ 32 - 1 → TakenInForm g → IsToldFor v g → MoveInForm a (actor_takes decl v g)
  takes_form accepted a n (Site s) g w counts low here told =
      let m : SiteMoveInForm (site_takes decl s g) = site_takes_form decl accepted.clients s g w here in
      record {
        state = record { form = m.site; sorted = site_takes_sorted decl accepted.clients s g w here };
        turn = record { sends = m.sends; failed_sends = m.failed_sends; write = λ low. m.write };
      }
  takes_form accepted a n (Client c) g w counts low here told =
      let few : c.front.count < 2 ^ 32 - 1 = (let count : c.front.count ≤ n = counts in omega (arith, count, low)) in
      let m : ClientMoveInForm decl (a - decl.sites) (client_takes decl c g) =
      client_takes_form decl (a - decl.sites) (answers_in_form decl accepted) c w.1 few g here in
      record {
        state = (w.0, m.client_is);
        turn = record {
          sends = m.sends;
          failed_sends = subst SendsInForm (sym (client_written decl c g).failed_sends) tt;
          write = λ low. client_writes accepted.clients a (client_takes decl c g).turn.write w.0 m.write;
        };
      }
  takes_form accepted a n (Admin m) g w counts low here told =
      let on : AdminMoveInForm (admin_takes decl m g) = admin_takes_form decl m g w here told in
      record {
        state = on.admin;
        turn = record {
          sends = on.sends;
          failed_sends = subst SendsInForm (sym (admin_written decl m g).failed_sends) tt;
          write = λ low. on.write;
        };
      }
  takes_form accepted a n Down g w counts low here told = record { state = tt; turn = down_taken a g }

  -- a post

  sends_form : (a : ℕ) (v : Actor) (number to : ℕ) (message : Message) → StateInForm a v
      → StateInForm a (actor_sends v number to message)
  sends_form a (Site s) number to message w = w
  sends_form a (Client c) number to message w = (w.0, sent_form decl (a - decl.sites) c number to message w.1)
  sends_form a (Admin m) number to message w = admin_sends_form m number to message w
  sends_form a Down number to message w = w

  pub posts_form : (a : ℕ) (m : ActorMove) (ds : List Deed) → Every IsOfPost ds → MoveInForm a m
      → MoveInForm a (fold (actor_does decl a) m ds)
  posts_form a m [] all w = w
  posts_form a m (Takes g ∷ ds) all w = absurd all.0
  posts_form a m (Writes written ∷ ds) all w = posts_form a m ds all.1 w
  posts_form a m (Sends number to message ∷ ds) all w =
      posts_form a (record m { actor = actor_sends m.actor number to message }) ds all.1
      (record { state = sends_form a m.actor number to message w.state; turn = w.turn })
  posts_form a m (Tells reply ∷ ds) all w = posts_form a m ds all.1 w
  posts_form a m (Falls cause pending ∷ ds) all w = posts_form a (moved Down quiet) ds all.1 (down_form a)
  posts_form a m (Rises rs ∷ ds) all w = absurd all.0

  -- a rise

  pub rises_form : (a : ℕ) (rs : List Record) → Every RecordInForm rs → length rs ≤ 2 ^ 31
      → MoveInForm a (actor_rises decl a rs)
  rises_form a rs all few = by (is_site decl a) (is_client decl a) refl
    where
      by : (site client : Bool) → is_client decl a ≡ client → MoveInForm a (rises_by decl a rs site client)
      by false false is = record {
        state = admin_risen_form rs all;
        turn = record { sends = tt; failed_sends = tt; write = λ low. ((tt, tt), tt) };
      }
      by true client is = record {
        state = site_risen_form a rs all;
        turn = record {
          sends =
              inquiries_form decl
              (take most_inquiries (in_order (map (λ (p : Prepared). p.tx) (kept_by rs).promises)));
          failed_sends = tt;
          write = λ low. ((tt, tt), tt);
        };
      }
      by false true is = record {
        state = (is, client_risen_form decl (a - decl.sites) rs all few);
        turn = record { sends = tt; failed_sends = tt; write = λ low. ((tt, tt), tt) };
      }
