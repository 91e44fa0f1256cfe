mod Methods
