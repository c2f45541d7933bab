-- What a client does for a command and for a message, case by case.
use Rattle.qc_decl.specs.declared.declaration.Declaration.{Declaration}
use Rattle.qc_msg.specs.declared.step.Command.{Command}
use Rattle.qc_msg.specs.declared.step.Command.TheVariants as commands
use Rattle.qc_front.specs.Conduct as fronts
use Rattle.qc_client.specs.declared.client.Client.{Client}
use Rattle.qc_client.specs.Vocabulary.{ClientMove, by_front, called, commits}

-- a command goes to the front end, but for a commit
pub called_cases : (decl : Declaration) (c : Client) (P : ClientMove → Type 0)
    → ((command : Command) → P (by_front c (fronts.called decl c.front command)))
    → P (commits decl c c.front.transaction) → (command : Command) → P (called decl c command)
called_cases decl c P fronted committed commands.Begin = fronted commands.Begin
called_cases decl c P fronted committed (commands.Do object inv) = fronted (commands.Do object inv)
called_cases decl c P fronted committed commands.Commit = committed
called_cases decl c P fronted committed commands.Abort = fronted commands.Abort
called_cases decl c P fronted committed (commands.Epoch number) = fronted (commands.Epoch number)
