mod RefusalLaws
