-- A client's turn is posted: its requests have their numbers, and all of its messages are in the mail.
use Rattle.std.proofs.Common.{[], ◌≡◌, ◌≢◌, ℕ, ◌==◌, ◌+◌, Bool, true, false, inl, inr, List, ◌∷◌, ◌++◌, length, Option}
use Rattle.std.proofs.Common.{Some, None, slice_get, refl, sym, ap, ◌∙◌, subst, eq-eqb, eqb-true}
use Rattle.qc_stamp.specs.declared.stamp.TxId.{TxId}
use Rattle.qc_list.specs.Vocabulary.{In}
use Rattle.qc_list.proofs.Members.{In-first, In-second, In-either}
use Rattle.qc_entry.specs.declared.record.Commit.{Commit as CommitRecord}
use Rattle.qc_decl.specs.declared.declaration.Declaration.{Declaration}
use Rattle.qc_decl.specs.Vocabulary.{client_actor, is_client}
use Rattle.qc_msg.specs.declared.message.Envelope.{Envelope}
use Rattle.qc_msg.specs.declared.message.Message.{Message}
use Rattle.qc_msg.specs.declared.message.Message.TheVariants as messages
use Rattle.qc_msg.specs.declared.message.Want.{Want}
use Rattle.qc_msg.specs.declared.message.Want.TheVariants.{Read, Append, Prepare}
use Rattle.qc_msg.specs.declared.turn.Posting.{Posting}
use Rattle.qc_msg.specs.Vocabulary.{Requested, envelopes, life_of, request_in, with_call}
use Rattle.theory_machine.specs.Vocabulary.{Committed, State}
use Rattle.qc_commit.specs.declared.desk.Desk.{Desk}
use Rattle.qc_commit.specs.declared.desk.Voting.{Voting}
use Rattle.qc_commit.specs.Vocabulary.{prepared, prepared_in}
use Rattle.qc_front.specs.Vocabulary.{requested}
use Rattle.qc_client.specs.Vocabulary.{ClientMove, requested as client_requested, sent_one}
use Rattle.qc_client.specs.declared.client.Client.{Client}
use Rattle.laws_refinement.specs.Vocabulary.{Backed, ClientMirrors, IsMessage, IsRequest, Mirrors, Net, after_client}
use Rattle.laws_refinement.specs.Vocabulary.{commits_in, sent_all}
use Rattle.laws_refinement.proofs.MessagesStay.{Keeps, Later, keeps_same}
use Rattle.laws_refinement.proofs.Frames.{keep_client}
use Rattle.laws_refinement.proofs.MessageCases.{message_cases}
use Rattle.laws_refinement.proofs.Posts.{AtNumber, at_number}
use Rattle.std.specs.Prelude.{MatchOption, option_to_list}
use Rattle.std.specs.Option.{option_map_or}
use Rattle.theory_machine.proofs.Names.{put_here}
use Rattle.laws_refinement.proofs.Machine.{put_other}
use Rattle.laws_refinement.proofs.Nets.{client_net}
use Rattle.laws_refinement.proofs.RequestsSent.{AsksFor, IsAsking, for_more, round_sent, prepare_sent}

module _ (decl : Declaration) where
  -- each message of a turn

  found_request : (ms : List Envelope) (a n to : ℕ) (tx u : TxId) (epoch life : ℕ) (want : Want)
      → slice_get ms n ≡ Some (record { number = n; from = a; to = to; message = messages.Request tx epoch life want })
      → tx ≡ u → IsRequest ms n to u want
  found_request ms a n to tx u epoch life want found same = record {
    epoch = epoch;
    life = life;
    is = (
      record { number = n; from = a; to = to; message = messages.Request tx epoch life want },
      found,
      refl,
      (λ i. messages.Request (same i) epoch life want),
    );
  }

  found_message : (ms : List Envelope) (a n to : ℕ) (tx u : TxId) (epoch e life l : ℕ) (want : Want)
      → slice_get ms n ≡ Some (record { number = n; from = a; to = to; message = messages.Request tx epoch life want })
      → tx ≡ u → epoch ≡ e → life ≡ l → IsMessage ms n to (messages.Request u e l want)
  found_message ms a n to tx u epoch e life l want found same x y = (
    record { number = n; from = a; to = to; message = messages.Request tx epoch life want },
    found,
    refl,
    (λ i. messages.Request (same i) (x i) (y i) want),
  )

  want_sent : (w : State) (ms : List Envelope) (a : ℕ) (c : Client) (n to : ℕ) (tx : TxId) (epoch life : ℕ)
      (want : Want) → ClientMirrors decl w ms a c → AsksFor decl c tx epoch life to want
      → slice_get ms n ≡ Some (record { number = n; from = a; to = to; message = messages.Request tx epoch life want })
      → ClientMirrors decl w ms a (sent_one c n to (messages.Request tx epoch life want))
  want_sent w ms a c n to tx epoch life (Read read) m k found =
      round_sent decl w ms a c n to k.t (Read read) m k.is k.for
      (found_message ms a n to tx k.t.begun.tx epoch k.t.begun.epoch life (life_of k.t.begun.lives to) (Read read)
      found k.its k.epoch_is k.life_is)
  want_sent w ms a c n to tx epoch life (Append object view own) m k found =
      round_sent decl w ms a c n to k.t (Append object view own) m k.is k.for
      (found_message ms a n to tx k.t.begun.tx epoch k.t.begun.epoch life (life_of k.t.begun.lives to)
      (Append object view own) found k.its k.epoch_is k.life_is)
  want_sent w ms a c n to tx epoch life Prepare m k found =
      prepare_sent decl w ms a c n to k.t k.for.0 m k.is k.for.1
      (found_request ms a n to tx k.t.begun.tx epoch life Prepare found k.its)

  one_sent : (w : State) (ms : List Envelope) (a : ℕ) (c : Client) (n to : ℕ) (message : Message)
      → ClientMirrors decl w ms a c → IsAsking decl c to message
      → slice_get ms n ≡ Some (record { number = n; from = a; to = to; message = message })
      → ClientMirrors decl w ms a (sent_one c n to message)
  one_sent w ms a c n to message m =
      message_cases (λ x q answer v i. MatchOption q (Unit {0})
      (λ (r : Requested). AsksFor decl c r.tx r.epoch r.life to r.want)
      → slice_get ms n ≡ Some (record { number = n; from = a; to = to; message = x })
      → ClientMirrors decl w ms a (option_map_or (λ (r : Requested). client_requested c n to r.want) q c))
      (λ q asks found. want_sent w ms a c n to q.tx q.epoch q.life q.want m asks found) (λ answer asks found. m)
      (λ v asks found. m) (λ start asks found. m) (λ x asks found. m) message

  -- what was asked for still is after another message

  round_still : (c : Client) (n to : ℕ) (tx : TxId) (epoch life dest : ℕ) (want : Want)
      → AsksFor decl c tx epoch life dest want
      → AsksFor decl (record c { front = requested c.front n to }) tx epoch life dest want
  round_still c n to tx epoch life dest (Read read) k =
      record {
        t = k.t;
        is = k.is;
        its = k.its;
        epoch_is = k.epoch_is;
        life_is = k.life_is;
        for = for_more decl k.t c.front.doing n to dest (Read read) k.for;
      }
  round_still c n to tx epoch life dest (Append object view own) k =
      record {
        t = k.t;
        is = k.is;
        its = k.its;
        epoch_is = k.epoch_is;
        life_is = k.life_is;
        for = for_more decl k.t c.front.doing n to dest (Append object view own) k.for;
      }
  round_still c n to tx epoch life dest Prepare k =
      record { t = k.t; is = k.is; its = k.its; epoch_is = k.epoch_is; life_is = k.life_is; for = k.for }

  voting_still : (desk : Desk) (n to : ℕ) (v : Voting) → desk.voting ≡ Some v
      → (u : Voting) × ((prepared desk n to).voting ≡ Some u)
  voting_still desk n to v is =
      (record v { calls = with_call v.calls n to }, ap (λ (o : Option Voting). (prepared_in desk o n to).voting) is)

  desk_still : (c : Client) (n to : ℕ) (tx : TxId) (epoch life dest : ℕ) (want : Want)
      → AsksFor decl c tx epoch life dest want
      → AsksFor decl (record c { desk = prepared c.desk n to }) tx epoch life dest want
  desk_still c n to tx epoch life dest (Read read) k =
      record { t = k.t; is = k.is; its = k.its; epoch_is = k.epoch_is; life_is = k.life_is; for = k.for }
  desk_still c n to tx epoch life dest (Append object view own) k =
      record { t = k.t; is = k.is; its = k.its; epoch_is = k.epoch_is; life_is = k.life_is; for = k.for }
  desk_still c n to tx epoch life dest Prepare k =
      record {
        t = k.t;
        is = k.is;
        its = k.its;
        epoch_is = k.epoch_is;
        life_is = k.life_is;
        for = voting_still c.desk n to k.for.0 k.for.1;
      }

  asks_still : (c : Client) (n to : ℕ) (first : Message) (tx : TxId) (epoch life dest : ℕ) (want : Want)
      → AsksFor decl c tx epoch life dest want → AsksFor decl (sent_one c n to first) tx epoch life dest want
  asks_still c n to first tx epoch life dest want k = by (request_in first)
    where
      asked : (wish : Want) → AsksFor decl (client_requested c n to wish) tx epoch life dest want
      asked (Read read) = round_still c n to tx epoch life dest want k
      asked (Append object view own) = round_still c n to tx epoch life dest want k
      asked Prepare = desk_still c n to tx epoch life dest want k

      by : (o : Option Requested)
          → AsksFor decl (option_map_or (λ (q : Requested). client_requested c n to q.want) o c) tx epoch life dest want
      by None = k
      by (Some q) = asked q.want

  still : (c : Client) (n to : ℕ) (first : Message) (dest : ℕ) (message : Message) → IsAsking decl c dest message
      → IsAsking decl (sent_one c n to first) dest message
  still c n to first dest message = by (request_in message)
    where
      by : (o : Option Requested)
          → MatchOption o (Unit {0}) (λ (q : Requested). AsksFor decl c q.tx q.epoch q.life dest q.want)
          → MatchOption o (Unit {0})
          (λ (q : Requested). AsksFor decl (sent_one c n to first) q.tx q.epoch q.life dest q.want)
      by None k = tt
      by (Some q) k = asks_still c n to first q.tx q.epoch q.life dest q.want k

  all_sent : (w : State) (ms : List Envelope) (a : ℕ) (c : Client) (n : ℕ) (ps : List Posting)
      → ClientMirrors decl w ms a c → ((p : Posting) → In p ps → IsAsking decl c p.to p.message)
      → AtNumber ms a n ps → ClientMirrors decl w ms a (sent_all c n ps)
  all_sent w ms a c n [] m asks at = m
  all_sent w ms a c n (p ∷ ps) m asks at =
      all_sent w ms a (sent_one c n p.to p.message) (n + 1) ps
      (one_sent w ms a c n p.to p.message m (asks p (inl refl)) at.0)
      (λ q among. still c n p.to p.message q.to q.message (asks q (inr among))) at.1

  -- what a client's step has to show of the machine's next state
  pub record ClientGoes (w v : State) (ms : List Envelope) (a n : ℕ) (move : ClientMove) : Type 0 where
    pub later : Later w v
    pub keeps : (d : ℕ) → d ≢ n → Keeps w v d
    pub records : v.records ≡ commits_in move.turn.write ++ w.records
    pub granted : v.granted ≡ w.granted
    pub deeds : v.deeds ≡ w.deeds
    pub alive : v.life ≡ w.life
    pub here : ClientMirrors decl v ms a move.client
    pub turn : (p : Posting) → In p move.turn.sends → Backed decl v ms a p.to p.message
    pub asking : (p : Posting) → In p move.turn.sends → IsAsking decl move.client p.to p.message

  pub client_goes : (w v : State) (net : Net) (a : ℕ) (move : ClientMove) → Mirrors decl w net → is_client decl a ≡ true
      → net.up a ≡ true → ClientGoes w v net.mail a (net.clients a).front.client move
      → ((c : CommitRecord) → In c v.records → v.status c.tx ≡ Committed c)
      → ((t : TxId) (c : CommitRecord) → v.status t ≡ Committed c → In c v.records)
      → Mirrors decl v (after_client net a move)
  client_goes w v net a move m client up g wrote writes =
      client_net decl w v net (after_client net a move) a (net.clients a).front.client move.turn.sends m client
      (m.clients a client up).own.actor
      (record {
        sites = λ b other. refl;
        clients = λ b other. put_other net.clients a (sent_all move.client (length net.mail) move.turn.sends) b other;
        up = λ b other. refl;
        records = λ b other. put_other net.records a (net.records a ++ option_to_list move.turn.write) b other;
        pending = λ b other. refl;
        admin = λ other. refl;
        mail = refl;
      })
      (record { later = g.later; keeps = g.keeps; granted = g.granted; deeds = g.deeds; lives = g.alive })
      (record {
        mirrors =
            λ u. subst (λ (c : Client). ClientMirrors decl v (net.mail ++ envelopes a (length net.mail) move.turn.sends)
            a c) (sym (put_here net.clients a (sent_all move.client (length net.mail) move.turn.sends))) here;
        fallen = λ down. absurd (let never : ⊥ = cc in never);
      })
      (record {
        records = λ c among. subst (λ (cs : List CommitRecord). In c cs) (sym g.records)
            (elim (In-either c net.written (commits_in move.turn.write) among) [
              | inl old ↦ In-second c (commits_in move.turn.write) w.records (m.records c old)
              | inr new ↦ In-first c (commits_in move.turn.write) w.records new
            ]);
        written =
            λ c among. elim (In-either c (commits_in move.turn.write) w.records
            (subst (λ (cs : List CommitRecord). In c cs) g.records among)) [
              | inl new ↦ In-second c net.written (commits_in move.turn.write) new
              | inr old ↦ In-first c net.written (commits_in move.turn.write) (m.written c old)
            ];
        of_client = λ c among. of_client c among (c.tx.client == (net.clients a).front.client) refl;
        settled = writes;
      })
      g.turn
    where
      of_client : (x : CommitRecord) → In x v.records → (k : Bool) → (x.tx.client == (net.clients a).front.client) ≡ k
          → is_client decl (client_actor decl x.tx.client) ≡ true
      of_client x among true e =
          subst (λ (n : ℕ). is_client decl n ≡ true)
          ((m.clients a client up).own.actor
          ∙ ap (λ (n : ℕ). client_actor decl n) (sym (eqb-true x.tx.client (net.clients a).front.client e))) client
      of_client x among false e =
          let other : x.tx.client ≢ (net.clients a).front.client =
          (λ same. (let k : (x.tx.client == (net.clients a).front.client) ≡ true =
          eq-eqb x.tx.client (net.clients a).front.client same in
          let never : ⊥ = cc in never)) in
          m.of_client x (m.settled x.tx x (sym ((g.keeps x.tx.client other).status x.tx refl) ∙ wrote x among))

      here : ClientMirrors decl v (net.mail ++ envelopes a (length net.mail) move.turn.sends) a
          (sent_all move.client (length net.mail) move.turn.sends)
      here =
          all_sent v (net.mail ++ envelopes a (length net.mail) move.turn.sends) a move.client (length net.mail)
          move.turn.sends
          (keep_client decl v v move.client.front.client (keeps_same v move.client.front.client) net.mail
          (envelopes a (length net.mail) move.turn.sends) a move.client refl g.here) g.asking
          (at_number net.mail a (length net.mail) move.turn.sends refl)
