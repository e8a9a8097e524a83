-- The places that a command names.
use Rattle.std.specs.Prelude.{[], None}
use Rattle.program_words.specs.declared.command.Command.{Command}
use Rattle.program_words.specs.declared.command.Command.TheVariants.{Answer, Check, Serve, Sink, Workload, Help, Version}
use Rattle.program_words.specs.declared.command.Places.{Places}

abbrev pub no_places : Places
no_places = record {
  config = [];
  journal = [];
  listen = [];
  server = [];
  workers = 0;
  connections = None;
}

-- The values that the command's words have.
abbrev pub places_of : Command → Places
places_of (Answer config journal) = record no_places { config = config; journal = journal }
places_of (Check journal) = record no_places { journal = journal }
places_of (Serve serve) = record {
  config = serve.config;
  journal = serve.journal;
  listen = serve.listen;
  server = [];
  workers = serve.workers;
  connections = serve.connections;
}
places_of (Sink sink) = record no_places { config = sink.config; server = sink.server }
places_of (Workload load) = record no_places { journal = load.journal }
places_of Help = no_places
places_of Version = no_places
