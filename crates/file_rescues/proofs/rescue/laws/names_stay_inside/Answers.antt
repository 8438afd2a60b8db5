-- The names of the entries' files, and that of the index.
use Rattle.file_rescues.proofs.lemmas.rescue.Inside.{all-inside, all-once}
use Rattle.file_rescues.proofs.rescue.laws.names_stay_inside.Goals as goal

pub returns : goal.returns
returns c = record {
  inside = λ image img directory files few. all-inside image img directory files few;
  once = λ image img directory files few. all-once image img directory files few;
}
