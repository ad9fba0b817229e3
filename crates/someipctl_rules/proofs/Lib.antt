mod RefusalLemmas
mod TreatingLemmas
mod FileLemmas
