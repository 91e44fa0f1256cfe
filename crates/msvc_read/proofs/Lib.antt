mod Ownable
