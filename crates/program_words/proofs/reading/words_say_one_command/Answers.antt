use Rattle.program_words.proofs.Answering.{one_command}
use Rattle.program_words.proofs.reading.words_say_one_command.Goals as goal

pub returns : goal.returns
returns c = one_command
