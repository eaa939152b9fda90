use Rattle.serf_message.proofs.Written.{message_again}
use Rattle.serf_message.proofs.WrittenTags.{tags_again}
use Rattle.serf_message.proofs.WrittenParts.{coordinate_again, key_request_again, key_response_again}
use Rattle.serf_message.proofs.WrittenState.{state_again}
use Rattle.serf_message.proofs.laws.written_is_read.Goals as goal

pub returns : goal.returns
returns c = record {
  message = λ m short range. message_again m short range;
  tags = λ tags few all. tags_again tags few all;
  coordinate = λ p fits. coordinate_again p fits.few fits.vec fits.error fits.adjustment fits.height;
  state = λ s fits. state_again s fits;
  key_request = λ key lt. key_request_again key lt;
  key_response = λ m fits. key_response_again m fits;
}
