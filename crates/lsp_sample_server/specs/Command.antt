-- What a command of the sample is, by the params of `workspace/executeCommand` as they were read.
use Rattle.std.specs.Prelude.{ℕ, List, codes, bytes_eq, nat_le, if◌then◌else◌, Option, Some, None}
use Rattle.std.specs.Option.{option_and_then}
use Rattle.serde_json.specs.Data.{Data, string}
use Rattle.serde_json.specs.Find.{as_number, as_u64}
use Rattle.lsp_shape.specs.Plain.{Plain, leaf, absent, present, parts, Parts, no_parts, part}
use Rattle.lsp_sample_server.specs.declared.command.Command.{Command}
use Rattle.lsp_sample_server.specs.declared.command.Command.TheVariants.{Echo, Wait, Ask, Unknown}

-- `wait` takes an integer from 0 to 1,000
abbrev pub wait_of : Option ℕ → Command
wait_of None = Unknown
wait_of (Some polls) = if nat_le polls 1000 then Wait polls else Unknown

-- a command with one argument
abbrev pub of_argument : List ℕ → Data → Command
of_argument name value = if bytes_eq name (codes "echo") then Echo else (if bytes_eq name (codes "wait") then wait_of (option_and_then as_u64 (as_number value)) else Unknown)

-- `ask` takes no argument, each of the others one
abbrev pub command_of : List ℕ → Parts → Command
command_of name no_parts = if bytes_eq name (codes "ask") then Ask else Unknown
command_of name (part (leaf value) no_parts) = of_argument name value
command_of name arguments = Unknown

-- the params are a name, arguments and a token
abbrev pub command_in : Plain → Command
command_in (parts (part (leaf (string name)) (part (parts arguments) token))) = command_of name arguments
command_in params = Unknown

abbrev pub last_of : Parts → Plain
last_of no_parts = absent
last_of (part p no_parts) = present p
last_of (part p (part q ps)) = last_of (part q ps)

-- the last of the arguments
abbrev pub argument_in : Plain → Plain
argument_in (parts (part name (part (parts arguments) token))) = last_of arguments
argument_in params = absent
